use Rattle.std.proofs.Common.{◌≡◌, ◌<◌, ℕ, Some, sym, ap, ◌∙◌, arith}
use Rattle.rollout_rules.specs.Items.{item_count}
use Rattle.plan_check.proofs.Firsts.{first_below_stops}
use Rattle.retarget_plan.specs.Leaving.{flying_at}
use Rattle.retarget_plan.specs.declared.unleft.Unleft.TheVariants.{Flying}
use Rattle.retarget_plan.proofs.Found.{none-all, none-next, none-where_not, some-where}
use Rattle.retarget_plan.proofs.leaving.first_flying.Goals as goal

pub returns-then-flying : goal.returns-then-flying
returns-then-flying c =
    let g = c.args.graph.now in
    let n = c.loop-item.item in
    let inside : n < item_count g.rollout.problem = omega (arith, c.item_count-item-end.ensures) in
    ap (λ (k : ℕ). Some (Flying n k)) c.begun.ensures
    ∙ sym (first_below_stops (flying_at g.history) (item_count g.rollout.problem) n _ inside c.loop-item.invariant (some-where _ _ (sym c.flying.ensures ∙ c.if-flying.true)))

pub loop-item-preserved : goal.loop-item-preserved
loop-item-preserved c = none-next (flying_at c.args.graph.now.history) c.loop-item.item c.loop-item.invariant (none-where_not _ _ (sym c.flying.ensures ∙ c.if-flying.false))

pub returns : goal.returns
returns c =
    let g = c.args.graph.now in
    let all : c.loop-item.item ≡ item_count g.rollout.problem = omega (arith, c.item_count-item-end.ensures) in
    none-all (flying_at g.history) c.loop-item.item (item_count g.rollout.problem) all c.loop-item.invariant
