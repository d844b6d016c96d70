use Rattle.std.proofs.Common.{◌≡◌, List, length}
use Rattle.switch_agent.specs.Items.{holding}
use Rattle.wan_edge.specs.Frames.{CommandFrame}
use Rattle.wan_edge.specs.Ports.{AnswersHeld, MovesByRule}
use Rattle.lossy_link.specs.Incoming.{HasCommands, TakesBehind, offered_of}
use Rattle.lossy_link.specs.Scripted.{AreSent}
use Rattle.lossy_link.specs.Traffic.{traffic_of}
use Rattle.lossy_link.proofs.script_port.send_each.Given as goal

abbrev pub invariant-loop-command : goal.invariant-loop-command
invariant-loop-command l = record {
  behind : (earlier : List CommandFrame) → HasCommands l.initial.incoming.taken earlier → TakesBehind (AreSent (traffic_of l.initial.line) (traffic_of l.line)) earlier l.incoming.taken;
  moves : (earlier : List CommandFrame) → HasCommands l.initial.incoming.taken earlier → MovesByRule (offered_of l.initial.incoming) (holding l.initial.line.items) (holding l.line.items);
  same : offered_of l.incoming ≡ offered_of l.initial.incoming;
  unheard : l.line.back.heard ≡ l.initial.line.back.heard;
  honest : AnswersHeld l.line.back.heard (holding l.line.items);
}

abbrev pub decreases-loop-command : goal.decreases-loop-command
decreases-loop-command l = length l.incoming.pending
