use Rattle.std.proofs.Common.{◌≡◌, ◌-◌, ◌≤◌, ◌++◌, length, take, drop, None}
use Rattle.std.specs.Prelude.{IsTrue}
use Rattle.wan_edge.specs.Streams.{SinkSteps}
use Rattle.fenced_wire.specs.Reading.{all_kept}
use Rattle.agent_talks.specs.Serving.{CarriesOut, IsCutTermed}
use Rattle.agent_talks.proofs.serve.serve_piece.Given as goal

abbrev pub invariant-loop-rest : goal.invariant-loop-rest
invariant-loop-rest g l = record {
  behind : l.rest ≡ drop (length l.piece - length l.rest) l.piece;
  within : length l.rest ≤ length l.piece;
  carried : CarriesOut l.fn.agent l.agent ((all_kept l.fn.reader) ++ take (length l.piece - length l.rest) l.piece) (record { commands = l.commands; fault = None }) (λ rest. rest ≡ (all_kept l.reader)) (g.G.Sink.told l.fn.guest).written (g.G.Sink.told l.guest).written;
  few : l.commands ≤ length l.piece - length l.rest;
  live : IsTrue l.reader.live;
  cut : IsCutTermed (all_kept l.reader);
  writes : SinkSteps (g.G.Sink.told l.fn.guest) (g.G.Sink.told l.guest);
  unread : g.G.Source.told l.guest ≡ g.G.Source.told l.fn.guest;
}

abbrev pub decreases-loop-rest : goal.decreases-loop-rest
decreases-loop-rest g l = length l.rest
