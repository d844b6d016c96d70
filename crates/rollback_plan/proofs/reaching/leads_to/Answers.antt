use Rattle.std.proofs.Common.{◌≡◌, ℕ, ◌+◌, ◌-◌, ◌<◌, ◌∙◌, sym, ap, ap₂, arith}
use Rattle.rollout_rules.specs.Wan.{Rollout, last_stage}
use Rattle.rollout_rules.specs.History.{begun}
use Rattle.rollout_rules.specs.Items.{is_item, item_at}
use Rattle.rollout_rules.specs.Operations.{stand_after}
use Rattle.rollout_rules.specs.declared.item.Item.{Item}
use Rattle.rollout_rules.proofs.Numbers.{is_item-item_at}
use Rattle.rollout_laws.proofs.Standing.{stand-most}
use Rattle.rollback_plan.proofs.Ceilings.{led-none, led-some}
use Rattle.rollback_plan.proofs.reaching.leads_to.Goals as goal

-- where an item stands, of a graph's own plan and item
stands : (r g : Rollout) (i j : Item) (settled stand : ℕ) → r ≡ g → i ≡ j → stand ≡ stand_after r.problem r.plan i settled → stand ≡ stand_after g.problem g.plan j settled
stands r g i j settled stand rollout item is = is ∙ ap₂ (λ (x : Rollout) (y : Item). stand_after x.problem x.plan y settled) rollout item

pub returns-then-begun-eq0 : goal.returns-then-begun-eq0
returns-then-begun-eq0 c =
    let g = c.args.graph.now in
    sym (led-none g.rollout.problem g.rollout.plan (item_at g.rollout.problem c.args.item) (begun g.history c.args.item) (sym c.begun-begun.ensures ∙ c.if-begun-eq0.true))

pub stand_after-requires : goal.stand_after-requires
stand_after-requires c =
    let p = c.args.graph.now.rollout.problem in
    ap (λ (r : Rollout). is_item r.problem c.item.result) c.plan-2.ensures ∙ ap (is_item p) c.item.ensures ∙ is_item-item_at p c.args.item c.requires

pub overflow_add-result : goal.overflow_add-result
overflow_add-result c =
    let g = c.args.graph.now.rollout in
    let i = item_at g.problem c.args.item in
    let at = stands c.plan-2.result.now g c.item.result i c.from.result c.stand_after.result c.plan-2.ensures c.item.ensures c.stand_after.ensures in
    let last = c.last_stage.ensures.value ∙ ap (λ (r : Rollout). last_stage r.plan) c.plan.ensures in
    omega (arith, at, stand-most g.problem g.plan i c.from.result, last, c.last_stage.ensures.few)

pub returns : goal.returns
returns c =
    let g = c.args.graph.now.rollout in
    let i = item_at g.problem c.args.item in
    let b = begun c.args.graph.now.history c.args.item in
    let at = stands c.plan-2.result.now g c.item.result i c.from.result c.stand_after.result c.plan-2.ensures c.item.ensures c.stand_after.ensures in
    let fewer = c.from.ensures ∙ ap (λ (n : ℕ). n - 1) c.begun-begun.ensures in
    let some : 0 < b = omega (arith, c.begun-begun.ensures, c.if-begun-eq0.false) in
    ap (λ (n : ℕ). n + 1) (at ∙ ap (stand_after g.problem g.plan i) fewer) ∙ sym (led-some g.problem g.plan i b some)
