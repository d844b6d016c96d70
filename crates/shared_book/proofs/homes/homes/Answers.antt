use Rattle.std.proofs.Common.{◌≡◌, ◌<◌, ℕ, true, List, [], ◌∷◌, ◌++◌, Option, length, get_or, ap, ap₂, sym, subst, ◌∙◌, arith}
use Rattle.rollout_rules.specs.Items.{home_of, is_item, item_at, item_count}
use Rattle.rollout_rules.specs.Wan.{Problem}
use Rattle.rollout_rules.specs.declared.item.Item.{Item}
use Rattle.rollout_rules.specs.declared.item.Item.TheVariants as variants
use Rattle.rollout_rules.proofs.Numbers.{is_item-item_at}
use Rattle.rollout_rules.proofs.Rows.{list_below-more}
use Rattle.dependency_graph.specs.Index.{AreItems}
use Rattle.shared_book.specs.Homes.{home_at}
use Rattle.shared_book.proofs.homes.homes.Goals as goal

-- the item that is read is the one with its number
listed : (p : Problem) (row slice : List Item) (n : ℕ) → AreItems p (item_count p) row → slice ≡ row → n < length slice → get_or slice n (variants.Flow 0) ≡ item_at p n
listed p row slice n are same lt =
    let inside : n < item_count p = omega (arith, lt, ap (λ (xs : List Item). length xs) same, are.count) in
    ap (λ (xs : List Item). get_or xs n (variants.Flow 0)) same ∙ are.each n (variants.Flow 0) inside

within : (p : Problem) (row slice : List Item) (n : ℕ) → AreItems p (item_count p) row → slice ≡ row → n < length slice → n < item_count p
within p row slice n are same lt = omega (arith, lt, ap (λ (xs : List Item). length xs) same, are.count)

pub home_of_item-requires : goal.home_of_item-requires
home_of_item-requires c =
    let p = c.args.plan.now.problem in
    let n = c.loop-item.item-index in
    let read = listed p _ _ n c.in_ok-items.ensures.list c.as_slice-item-items.ensures c.loop-item-test.true in
    let there : is_item p (get_or c.as_slice-item-items.result.now n (variants.Flow 0)) ≡ true =
    subst (λ i. is_item p i ≡ true) (sym read) (is_item-item_at p n (within p _ _ n c.in_ok-items.ensures.list c.as_slice-item-items.ensures c.loop-item-test.true)) in
    subst (λ (q : Problem). is_item q (get_or c.as_slice-item-items.result.now n (variants.Flow 0)) ≡ true) (sym c.problem.ensures) there

pub loop-item-preserved : goal.loop-item-preserved
loop-item-preserved c =
    let p = c.args.plan.now.problem in
    let n = c.loop-item.item-index in
    let read = listed p _ _ n c.in_ok-items.ensures.list c.as_slice-item-items.ensures c.loop-item-test.true in
    let home = c.home_of_item.ensures.home ∙ ap (λ (q : Problem). home_of q (get_or c.as_slice-item-items.result.now n (variants.Flow 0))) c.problem.ensures ∙ ap (home_of p) read in
    c.in_ok-push.ensures.ok ∙ ap₂ (λ (hs : List (Option ℕ)) (h : Option ℕ). hs ++ h ∷ []) c.loop-item.invariant home ∙ sym (list_below-more n (home_at p))
