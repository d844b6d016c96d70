use Rattle.std.proofs.Common.{◌≡◌, List, length}
use Rattle.wan_edge.specs.Frames.{CommandFrame}
use Rattle.lossy_link.specs.Incoming.{HasCommands, TakesMore, offered_of}
use Rattle.lossy_link.proofs.faithful_port.skip_each.Given as goal

abbrev pub invariant-loop : goal.invariant-loop
invariant-loop l = record {
  same : offered_of l.incoming ≡ offered_of l.initial.incoming;
  has : (earlier : List CommandFrame) → HasCommands l.initial.incoming.taken earlier → TakesMore earlier l.incoming.taken;
}

abbrev pub decreases-loop : goal.decreases-loop
decreases-loop l = length l.incoming.pending
