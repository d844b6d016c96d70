use Rattle.std.proofs.Common.{length, ap, ◌∙◌, arith}
use Rattle.rollout_rules.specs.Wan.{Problem}
use Rattle.retarget_plan.proofs.looking.link_total.Goals as goal

pub returns-clause-value : goal.returns-clause-value
returns-clause-value c = ap length c.links.ensures.list ∙ ap (λ (p : Problem). length p.links) c.problem-problem.ensures

pub returns-clause-few : goal.returns-clause-few
returns-clause-few c =
    let all = ap length c.links.ensures.list ∙ ap (λ (p : Problem). length p.links) c.problem-problem.ensures in
    omega (arith, all, c.checked_plan_is_valid.ensures.network.links.count)
