use Rattle.std.proofs.Common.{◌≡◌, List, length}
use Rattle.wan_edge.specs.Frames.{CommandFrame}
use Rattle.lossy_link.specs.Aliens.{AreAnsweredWith}
use Rattle.lossy_link.specs.Incoming.{HasCommands, TakesBehind, offered_of}
use Rattle.lossy_link.proofs.alien_port.answer_each.Given as goal

abbrev pub invariant-loop-command : goal.invariant-loop-command
invariant-loop-command l = record {
  behind : (earlier : List CommandFrame) → HasCommands l.initial.incoming.taken earlier → TakesBehind (AreAnsweredWith l.held l.initial.back l.back) earlier l.incoming.taken;
  same : offered_of l.incoming ≡ offered_of l.initial.incoming;
  unheard : l.back.heard ≡ l.initial.back.heard;
}

abbrev pub decreases-loop-command : goal.decreases-loop-command
decreases-loop-command l = length l.incoming.pending
