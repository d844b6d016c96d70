use Rattle.std.proofs.Common.{ap, ◌∙◌, unwrap_or, Option, None}
use Rattle.wan_edge.specs.Frames.{CommandFrame}
use Rattle.switch_agent.specs.Items.{Items, content_of, held_by, last_command}
use Rattle.switch_agent.proofs.agent.Agent.content.Goals as goal

pub returns-in-Some : goal.returns-in-Some
returns-in-Some c =
    c.content_by.ensures ∙ ap (λ (found : Option (Option CommandFrame)). content_of (held_by (unwrap_or found None))) c.in-Some.ensures.value
    ∙ ap (λ (items : Items). content_of (held_by (last_command items c.args.item))) c.self.view_is

pub returns-in-None : goal.returns-in-None
returns-in-None c =
    ap (λ (found : Option (Option CommandFrame)). content_of (held_by (unwrap_or found None))) c.in-None.ensures.value
    ∙ ap (λ (items : Items). content_of (held_by (last_command items c.args.item))) c.self.view_is
