use Rattle.std.proofs.Common.{◌∙◌, arith}
use Rattle.std.proofs.lemmas.Result.{IfOk-weaker}
use Rattle.wan_model.specs.declared.side.Side.TheVariants.{Old, New}
use Rattle.fewest_plan.proofs.Relieving.{borne-count, relief-is, relief-order}
use Rattle.fewest_plan.proofs.relief.relieving.Goals as goal

pub by_loads-requires-clause-count : goal.by_loads-requires-clause-count
by_loads-requires-clause-count c =
    let p = c.args.problem.now in
    let before = borne-count p c.args.marks.now c.requires.marks Old c.as_slice-before.result.now (c.as_slice-before.ensures ∙ c.in_ok-earlier.ensures) in
    let after = borne-count p c.args.marks.now c.requires.marks New c.as_slice-after.result.now (c.as_slice-after.ensures ∙ c.in_ok-later.ensures) in
    omega (arith, before, after)

pub by_loads-requires-clause-few : goal.by_loads-requires-clause-few
by_loads-requires-clause-few c =
    let before = borne-count c.args.problem.now c.args.marks.now c.requires.marks Old c.as_slice-before.result.now (c.as_slice-before.ensures ∙ c.in_ok-earlier.ensures) in
    omega (arith, before, c.requires.network.flows.count)

pub returns-clause-value : goal.returns-clause-value
returns-clause-value c =
    IfOk-weaker c.by_loads.result _ _ (λ order e. relief-is c.args.problem.now c.args.marks.now c.requires.marks c.as_slice-before.result.now c.as_slice-after.result.now order (c.as_slice-before.ensures ∙ c.in_ok-earlier.ensures) (c.as_slice-after.ensures ∙ c.in_ok-later.ensures) e) c.by_loads.ensures

pub returns-clause-order : goal.returns-clause-order
returns-clause-order c =
    IfOk-weaker c.by_loads.result _ _ (λ order e. relief-order c.args.problem.now c.args.marks.now c.requires.marks c.as_slice-before.result.now c.as_slice-after.result.now order (c.as_slice-before.ensures ∙ c.in_ok-earlier.ensures) e) c.by_loads.ensures
