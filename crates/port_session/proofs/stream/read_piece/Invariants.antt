use Rattle.std.proofs.Common.{◌≡◌, ◌-◌, ◌≤◌, None, length, take, drop}
use Rattle.std.specs.Prelude.{IsTrue}
use Rattle.wan_edge.specs.Frames.{IsCutAnswer}
use Rattle.port_session.specs.Reading.{ReadsAnswers}
use Rattle.port_session.proofs.stream.read_piece.Given as goal

abbrev pub invariant-loop-rest : goal.invariant-loop-rest
invariant-loop-rest l = record {
  behind : l.rest ≡ drop (length l.piece - length l.rest) l.piece;
  within : length l.rest ≤ length l.piece;
  reads : ReadsAnswers l.migration (record { kept = l.fn.reader.kept; awaited = l.fn.awaited; told = l.fn.answers }) (take (length l.piece - length l.rest) l.piece) None (record { kept = l.reader.kept; awaited = l.awaited; told = l.answers });
  live : IsTrue l.reader.live;
  cut : IsCutAnswer l.reader.kept;
}

abbrev pub decreases-loop-rest : goal.decreases-loop-rest
decreases-loop-rest l = length l.rest
