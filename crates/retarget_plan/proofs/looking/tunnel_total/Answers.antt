use Rattle.std.proofs.Common.{length, ap, ◌∙◌, arith}
use Rattle.rollout_rules.specs.Wan.{Problem}
use Rattle.retarget_plan.proofs.looking.tunnel_total.Goals as goal

pub returns-clause-value : goal.returns-clause-value
returns-clause-value c = ap length c.tunnels.ensures.list ∙ ap (λ (p : Problem). length p.tunnels) c.problem-problem.ensures

pub returns-clause-few : goal.returns-clause-few
returns-clause-few c =
    let all = ap length c.tunnels.ensures.list ∙ ap (λ (p : Problem). length p.tunnels) c.problem-problem.ensures in
    omega (arith, all, c.checked_plan_is_valid.ensures.network.few)
