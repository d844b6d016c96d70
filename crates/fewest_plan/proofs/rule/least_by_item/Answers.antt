use Rattle.std.proofs.Common.{◌≡◌, ◌<◌, length, slice_index, None, ap, ◌∙◌, arith}
use Rattle.std.proofs.lemmas.Result.{IfOk-weaker}
use Rattle.rollout_rules.specs.Sums.{list_below}
use Rattle.rollout_rules.proofs.Rows.{list_below-length, list_below-at}
use Rattle.fewest_plan.specs.Fewest.{in_parts}
use Rattle.fewest_plan.proofs.rule.least_by_item.Goals as goal

pub in_parts-requires-clause-order : goal.in_parts-requires-clause-order
in_parts-requires-clause-order c i lt =
    let n = length c.args.problem.now.flows in
    let is : c.as_slice.result.now ≡ list_below n (λ f. f) = cc (c.as_slice.ensures, c.in_ok-order.ensures) in
    let low : i < n = omega (arith, lt, ap length is, list_below-length n (λ f. f)) in
    let at = ap (λ xs. slice_index xs i) is ∙ list_below-at n (λ f. f) i 0 low in
    omega (arith, at, low)

pub returns : goal.returns
returns c =
    let p = c.args.problem.now in
    IfOk-weaker c.in_parts.result _ _ (λ found e. e ∙ ap (λ order. in_parts p c.args.most order None) (c.as_slice.ensures ∙ c.in_ok-order.ensures)) c.in_parts.ensures
