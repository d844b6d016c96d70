use Rattle.std.proofs.Common.{◌≡◌, ◌*◌, ◌-◌, length}
use Rattle.std.specs.Prelude.{IsTrue}
use Rattle.wan_edge.specs.Frames.{IsCutAnswer}
use Rattle.held_service.specs.Hearing.{Hears}
use Rattle.held_service.proofs.hearing.hear_out.Given as goal

-- what came so far
abbrev pub invariant-loop-left : goal.invariant-loop-left
invariant-loop-left g l = record {
  live : IsTrue l.reader.live;
  cut : IsCutAnswer l.reader.kept;
  rows : length l.notes ≡ length l.homes;
  hears : Hears l.homes l.switch l.asked l.left l.fn.reader.kept l.fn.notes (g.T.Port.told l.fn.port) l.reader.kept l.notes (g.T.Port.told l.port);
}

abbrev pub decreases-loop-left : goal.decreases-loop-left
decreases-loop-left g l = 13 * l.left - length l.reader.kept
