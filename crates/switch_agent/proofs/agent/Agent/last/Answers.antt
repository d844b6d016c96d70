use Rattle.std.proofs.Common.{ap, ◌∙◌, unwrap_or, Option, None}
use Rattle.wan_edge.specs.Frames.{CommandFrame}
use Rattle.switch_agent.specs.Items.{Items, last_command}
use Rattle.switch_agent.proofs.agent.Agent.last.Goals as goal

pub returns-in-Some : goal.returns-in-Some
returns-in-Some c =
    ap (λ (found : Option (Option CommandFrame)). unwrap_or found None) c.in-Some.ensures.value ∙ ap (λ (items : Items). last_command items c.args.item) c.self.view_is

pub returns-in-None : goal.returns-in-None
returns-in-None c =
    ap (λ (found : Option (Option CommandFrame)). unwrap_or found None) c.in-None.ensures.value ∙ ap (λ (items : Items). last_command items c.args.item) c.self.view_is
