use Rattle.std.proofs.Common.{ap, ◌∙◌}
use Rattle.rollout_rules.specs.Wan.{Plan}
use Rattle.text_commands.proofs.Claims.{line-is}
use Rattle.text_commands.proofs.texts.check.line_with.Goals as goal

pub returns : goal.returns
returns c =
    line-is c.args.plan.now.plan _ _ c.args.behind.now _ c.steps.ensures (c.scale_of.ensures ∙ ap (λ (x : Plan). x.scale) c.plan.ensures.part) c.in_ok-text_with.ensures
