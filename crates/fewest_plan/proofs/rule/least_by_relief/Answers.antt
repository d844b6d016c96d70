use Rattle.std.proofs.Common.{sym, ap, ◌∙◌, subst}
use Rattle.std.proofs.lemmas.Result.{IfOk-weaker}
use Rattle.fewest_plan.specs.Greedy.{IsOrder}
use Rattle.fewest_plan.specs.Fewest.{in_parts}
use Rattle.fewest_plan.proofs.rule.least_by_relief.Goals as goal

pub in_parts-requires-clause-order : goal.in_parts-requires-clause-order
in_parts-requires-clause-order c = subst (λ xs. IsOrder c.args.problem.now xs) (sym c.as_slice.ensures) c.in_ok-order.ensures.order

pub returns : goal.returns
returns c =
    let p = c.args.problem.now in
    IfOk-weaker c.in_parts.result _ _ (λ best e. e ∙ ap (λ order. in_parts p c.args.most order c.args.found) (c.as_slice.ensures ∙ c.in_ok-order.ensures.value)) c.in_parts.ensures
