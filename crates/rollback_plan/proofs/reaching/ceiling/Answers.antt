use Rattle.std.proofs.Common.{◌≡◌, ℕ, ◌∙◌, cond, max, nat_cmp, is_lt, Ordering, Less, Equal, Greater, inl, inr, sym, ap, arith}
use Rattle.std.proofs.lemmas.Bool.{cases_lt}
use Rattle.std.specs.Cmp.{nat_cmp_is}
use Rattle.std.specs.Ordering.{ord_max}
use Rattle.rollout_rules.specs.Items.{item_count}
use Rattle.rollout_rules.specs.Release.{most_below}
use Rattle.rollback_plan.specs.Levels.{leads_to}
use Rattle.rollback_plan.proofs.Ceilings.{most-next}
use Rattle.rollback_plan.proofs.reaching.ceiling.Goals as goal

-- what `max` answers is the greater number
max-is : (a b : ℕ) → ord_max nat_cmp a b ≡ max a b
max-is a b = elim (cases_lt b a) as (λ c. ord_max nat_cmp a b ≡ max a b) [
  | inl less ↦
      let here : max a b ≡ a = omega (arith, less) in
      ap (λ (o : Ordering). cond (is_lt o) a b) (sym (nat_cmp_is b a Less less)) ∙ sym here
  | inr most ↦
      let there : max a b ≡ b = omega (arith, most) in
      elim (cases_lt a b) as (λ c. ord_max nat_cmp a b ≡ max a b) [
        | inl less ↦ ap (λ (o : Ordering). cond (is_lt o) a b) (sym (nat_cmp_is b a Greater less)) ∙ sym there
        | inr same ↦
            let one : b ≡ a = omega (arith, most, same) in
            ap (λ (o : Ordering). cond (is_lt o) a b) (sym (nat_cmp_is b a Equal one)) ∙ sym there
      ]
]

pub loop-item-preserved : goal.loop-item-preserved
loop-item-preserved c =
    let g = c.args.graph.now in
    most-next c.loop-item.item (leads_to g.rollout.problem g.rollout.plan g.history) c.loop-item.most c.leads_to.result _ c.loop-item.invariant c.leads_to.ensures (c.max-most.ensures ∙ max-is c.loop-item.most c.leads_to.result)

pub returns : goal.returns
returns c =
    let g = c.args.graph.now in
    let all : c.loop-item.item ≡ item_count g.rollout.problem = omega (arith, c.item_count-item-end.ensures) in
    c.loop-item.invariant ∙ ap (λ n. most_below n (leads_to g.rollout.problem g.rollout.plan g.history)) all
