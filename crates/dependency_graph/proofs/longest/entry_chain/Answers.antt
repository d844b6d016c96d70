use Rattle.std.proofs.Common.{not, max, if◌then◌else◌, ap₂, ◌∙◌, arith}
use Rattle.rollout_rules.specs.declared.item.Item.TheVariants as item
use Rattle.dependency_graph.proofs.EnoughTurns.{installed-before}
use Rattle.dependency_graph.proofs.Chained.{chain-of_entry, chain-few, last-few}
use Rattle.dependency_graph.proofs.longest.entry_chain.Goals as goal

pub overflow_add-result : goal.overflow_add-result
overflow_add-result c =
    let p = c.args.plan.now.problem in
    let plan = c.args.plan.now.plan in
    let before = installed-before p plan c.checked_plan_is_valid.ensures.valid in
    let most = c.max.ensures ∙ ap₂ max c.requires.own (c.only_if.ensures ∙ ap₂ (λ m x. if not m then x else 0) c.mark.ensures c.requires.arrived) in
    omega (arith, most, chain-of_entry p plan before c.args.t c.args.s, chain-few p plan before (item.Entry c.args.t 0) c.args.s, last-few p plan c.checked_plan_is_valid.ensures.valid)

pub returns : goal.returns
returns c =
    let p = c.args.plan.now.problem in
    let plan = c.args.plan.now.plan in
    let before = installed-before p plan c.checked_plan_is_valid.ensures.valid in
    let most = c.max.ensures ∙ ap₂ max c.requires.own (c.only_if.ensures ∙ ap₂ (λ m x. if not m then x else 0) c.mark.ensures c.requires.arrived) in
    omega (arith, most, chain-of_entry p plan before c.args.t c.args.s)
