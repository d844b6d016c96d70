use Rattle.std.proofs.Common.{◌≡◌, ◌∙◌, length, true, sym, ap, subst, arith}
use Rattle.rollout_rules.specs.Sums.{list_below}
use Rattle.rollout_rules.specs.Items.{item_count}
use Rattle.rollout_rules.specs.Legal.{is_sound}
use Rattle.rollout_rules.proofs.Rows.{list_below-length}
use Rattle.rollout_laws.proofs.SoundStarts.{no_start-sound}
use Rattle.dependency_graph.proofs.zeros.zeros.Goals as goal

pub returns-clause-list : goal.returns-clause-list
returns-clause-list c =
    let end : c.loop-item._item ≡ item_count c.args.plan.now.problem = omega (arith, c.item_count-item-end.ensures, ap item_count c.problem.ensures) in
    c.loop-item.invariant ∙ ap (λ n. list_below n (λ k. 0)) end

pub returns-clause-numbers : goal.returns-clause-numbers
returns-clause-numbers c =
    let end : c.loop-item._item ≡ item_count c.args.plan.now.problem = omega (arith, c.item_count-item-end.ensures, ap item_count c.problem.ensures) in
    ap length (c.loop-item.invariant ∙ ap (λ n. list_below n (λ k. 0)) end) ∙ list_below-length (item_count c.args.plan.now.problem) (λ k. 0)

pub returns-clause-sound : goal.returns-clause-sound
returns-clause-sound c =
    let r = c.args.plan.now in
    let end : c.loop-item._item ≡ item_count r.problem = omega (arith, c.item_count-item-end.ensures, ap item_count c.problem.ensures) in
    let all = c.loop-item.invariant ∙ ap (λ n. list_below n (λ k. 0)) end in
    subst (λ start. is_sound r.problem r.plan start ≡ true) (sym all) (no_start-sound r.problem r.plan c.checked_plan_is_valid.ensures.valid)
