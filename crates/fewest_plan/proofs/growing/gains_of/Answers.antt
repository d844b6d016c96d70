use Rattle.std.proofs.Common.{length, ap, ◌∙◌, arith}
use Rattle.std.proofs.lemmas.Result.{IfOk-weaker}
use Rattle.rollout_rules.proofs.Rows.{list_below-length}
use Rattle.fewest_plan.specs.Growth.{growth}
use Rattle.fewest_plan.proofs.Gaining.{growing-is}
use Rattle.fewest_plan.proofs.growing.gains_of.Goals as goal

pub growing-requires : goal.growing-requires
growing-requires c =
    let p = c.args.problem.now in
    omega (arith, ap length (c.as_slice.ensures.value ∙ c.in_ok-growths.ensures.value), list_below-length (length p.links) (growth p c.args.f), c.growths.ensures.few)

pub returns : goal.returns
returns c =
    IfOk-weaker c.growing.result _ _ (λ gains e. e ∙ growing-is c.args.problem.now c.args.f c.as_slice.result.now (c.as_slice.ensures.value ∙ c.in_ok-growths.ensures.value)) c.growing.ensures
