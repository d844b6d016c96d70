use Rattle.std.proofs.Common.{◌∙◌, ap, ap₂}
use Rattle.rollout_rules.specs.Agent.{is_next_command}
use Rattle.wan_edge.specs.Frames.{Command, CommandFrame}
use Rattle.std.specs.Prelude.{Option}
use Rattle.switch_agent.specs.Items.{held_by, last_command}
use Rattle.switch_agent.proofs.agent.Agent.takes.Goals as goal

pub returns : goal.returns
returns c =
    c.is_next.ensures
    ∙ ap₂ is_next_command (c.held_by.ensures ∙ ap (λ (last : Option CommandFrame). (held_by last).held) (c.last.ensures ∙ ap (λ (x : Command). last_command c.args.self.now x.item) c.command.view_is)) c.pair.ensures
