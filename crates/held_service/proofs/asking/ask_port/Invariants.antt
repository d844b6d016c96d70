use Rattle.std.proofs.Common.{◌≡◌, ◌≤◌, ◌-◌, length}
use Rattle.std.specs.Prelude.{IsTrue}
use Rattle.wan_edge.specs.Frames.{IsCutAnswer}
use Rattle.held_service.specs.Talks.{TalksFor}
use Rattle.held_service.proofs.asking.ask_port.Given as goal

-- the rounds so far
abbrev pub invariant-loop-item : goal.invariant-loop-item
invariant-loop-item g l = record {
  live : IsTrue l.reader.live;
  cut : IsCutAnswer l.reader.kept;
  rows : length l.notes ≡ length l.homes;
  within : l.round ≤ l.rounds;
  talks : TalksFor l.migration l.homes l.switch l.items l.fn.notes l.round (g.T.Port.told l.fn.port) l.reader.kept l.notes (g.T.Port.told l.port);
}

abbrev pub decreases-loop-item : goal.decreases-loop-item
decreases-loop-item g l = l.rounds - l.round
