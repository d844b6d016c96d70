use Rattle.std.proofs.Common.{◌∙◌, ap, arith}
use Rattle.rollout_rules.specs.Wan.{Plan}
use Rattle.retarget_plan.proofs.Looked.{scale-is}
use Rattle.retarget_plan.proofs.looking.scale_of.Goals as goal

pub returns-clause-value : goal.returns-clause-value
returns-clause-value c = ap (λ (plan : Plan). plan.scale) c.stages.view_is ∙ ap (λ (plan : Plan). plan.scale) c.plan-stages.ensures.part

pub returns-clause-some : goal.returns-clause-some
returns-clause-some c =
    let same = ap (λ (plan : Plan). plan.scale) c.stages.view_is ∙ ap (λ (plan : Plan). plan.scale) c.plan-stages.ensures.part in
    omega (arith, same, (scale-is c.args.plan.now.problem c.args.plan.now.plan c.plan-stages.ensures.valid).some)

pub returns-clause-most : goal.returns-clause-most
returns-clause-most c =
    let same = ap (λ (plan : Plan). plan.scale) c.stages.view_is ∙ ap (λ (plan : Plan). plan.scale) c.plan-stages.ensures.part in
    omega (arith, same, (scale-is c.args.plan.now.problem c.args.plan.now.plan c.plan-stages.ensures.valid).most)
