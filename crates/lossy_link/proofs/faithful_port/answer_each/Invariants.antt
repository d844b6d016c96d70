use Rattle.std.proofs.Common.{◌≡◌, List, length}
use Rattle.switch_agent.specs.Items.{holding}
use Rattle.wan_edge.specs.Frames.{CommandFrame}
use Rattle.lossy_link.specs.Faithful.{AreAnswered}
use Rattle.lossy_link.specs.Incoming.{HasCommands, TakesBehind, offered_of}
use Rattle.lossy_link.proofs.faithful_port.answer_each.Given as goal

abbrev pub invariant-loop-command : goal.invariant-loop-command
invariant-loop-command l = record {
  same : offered_of l.incoming ≡ offered_of l.initial.incoming;
  behind : (earlier : List CommandFrame) → HasCommands l.initial.incoming.taken earlier → TakesBehind (AreAnswered (holding l.initial.agent) (holding l.agent) l.initial.back l.back) earlier l.incoming.taken;
}

abbrev pub decreases-loop-command : goal.decreases-loop-command
decreases-loop-command l = length l.incoming.pending
