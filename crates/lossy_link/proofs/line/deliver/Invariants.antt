use Rattle.std.proofs.Common.{◌≡◌, replicate}
use Rattle.switch_agent.specs.Items.{holding}
use Rattle.wan_edge.specs.Switches.{after_commands}
use Rattle.lossy_link.proofs.line.deliver.Given as goal

abbrev pub invariant-loop-time : goal.invariant-loop-time
invariant-loop-time l = holding l.agent ≡ after_commands (holding l.initial.agent) (replicate l._time l.command)
