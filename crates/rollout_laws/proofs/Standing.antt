-- Where an item stands once so many of its operations are settled.
use Rattle.std.proofs.Common.{◌≡◌, ℕ, zero, suc, ◌+◌, ◌<◌, ◌≤◌, inl, inr, refl, ap, ◌∙◌, subst, arith, le-leb, leb-true, nat_le}
use Rattle.std.proofs.lemmas.Bool.{cases_Bool, cases_lt, cases_order, not-false}
use Rattle.rollout_rules.specs.Sums.{same_numbers}
use Rattle.rollout_rules.specs.Wan.{Problem, Plan, last_stage}
use Rattle.rollout_rules.specs.Items.{content}
use Rattle.rollout_rules.specs.Operations.{changes_behind, changes_to, operations, stand_after}
use Rattle.rollout_rules.specs.declared.item.Item.{Item}
use Rattle.rollout_rules.proofs.Below.{sum_below-up, last_to-most, last_to-passes, last_to-is_last}
use Rattle.rollout_rules.proofs.Alike.{same_numbers-is}

module _ (p : Problem) (plan : Plan) (i : Item) where
  pub changes-up : (a b : ℕ) → a ≤ b → changes_to p plan i a ≤ changes_to p plan i b
  changes-up a b le = sum_below-up a b _ le

  pub changes-step : (s : ℕ) → changes_to p plan i (suc s) ≤ changes_to p plan i s + 1
  changes-step s = elim (cases_Bool (changes_behind p plan i s)) as (λ c. changes_to p plan i (suc s) ≤ changes_to p plan i s + 1) [
    | inl yes' ↦ rw yes' (omega arith)
    | inr not' ↦ rw not' (omega arith)
  ]

  content-stays : (b : ℕ) → changes_to p plan i (suc b) ≤ changes_to p plan i b → content p plan i b ≡ content p plan i (suc b)
  content-stays b few = elim (cases_Bool (changes_behind p plan i b)) as (λ c. content p plan i b ≡ content p plan i (suc b)) [
    | inl changes ↦ let one : changes_to p plan i (suc b) ≡ changes_to p plan i b + 1 = rw changes refl in absurd (omega arith)
    | inr stays ↦
        same_numbers-is (content p plan i b) (content p plan i (b + 1)) (not-false (same_numbers (content p plan i b) (content p plan i (b + 1))) stays)
        ∙ ap (content p plan i) (omega arith)
  ]

  -- no change point between two stages: the same content
  pub content-same : (a b : ℕ) → a ≤ b → changes_to p plan i b ≤ changes_to p plan i a → content p plan i a ≡ content p plan i b
  content-same a zero le few = ap (content p plan i) (omega arith)
  content-same a (suc b) le few = elim (cases_order a (suc b)) as (λ c. content p plan i a ≡ content p plan i (suc b)) [
    | inl e ↦ ap (content p plan i) e
    | inr (inl less) ↦
        let low = changes-up a b (omega arith) in
        let high = changes-up b (suc b) (omega arith) in
        content-same a b (omega arith) (omega (arith, high)) ∙ content-stays b (omega (arith, low))
    | inr (inr more) ↦ absurd (omega arith)
  ]

  pub stand-most : (j : ℕ) → stand_after p plan i j ≤ last_stage plan
  stand-most j = last_to-most (last_stage plan) (λ s. nat_le (changes_to p plan i s) j)

  pub stand-passes : (j : ℕ) → changes_to p plan i (stand_after p plan i j) ≤ j
  stand-passes j = leb-true _ _ (last_to-passes (last_stage plan) (λ s. nat_le (changes_to p plan i s) j) (le-leb 0 j (omega arith)))

  pub stand-past : (j s : ℕ) → s ≤ last_stage plan → changes_to p plan i s ≤ j → s ≤ stand_after p plan i j
  stand-past j s most few = last_to-is_last (last_stage plan) (λ u. nat_le (changes_to p plan i u) j) s most (le-leb (changes_to p plan i s) j few)

  -- past where it stands there are more change points
  pub stand-before : (j s : ℕ) → stand_after p plan i j < s → s ≤ last_stage plan → j < changes_to p plan i s
  stand-before j s past most = elim (cases_lt j (changes_to p plan i s)) as (λ c. j < changes_to p plan i s) [
    | inl more ↦ more
    | inr few ↦ absurd (omega (arith, stand-past j s most few))
  ]

  pub stand-up : (j k : ℕ) → j ≤ k → stand_after p plan i j ≤ stand_after p plan i k
  stand-up j k le = stand-past k (stand_after p plan i j) (stand-most j) (omega (arith, stand-passes j))

  -- with all operations settled it stands at the last stage, and else before
  pub stand-last : (j : ℕ) → operations p plan i ≤ j → stand_after p plan i j ≡ last_stage plan
  stand-last j all = omega (arith, stand-most j, stand-past j (last_stage plan) (omega arith) all)

  pub stand-left : (j : ℕ) → j < operations p plan i → stand_after p plan i j < last_stage plan
  stand-left j left = elim (cases_lt (stand_after p plan i j) (last_stage plan)) as (λ c. stand_after p plan i j < last_stage plan) [
    | inl before ↦ before
    | inr at ↦ absurd (omega (arith, stand-passes j, changes-up (last_stage plan) (stand_after p plan i j) at))
  ]

  -- an operation takes an item at least a stage further
  pub stand-moves : (j : ℕ) → j < operations p plan i → stand_after p plan i j + 1 ≤ stand_after p plan i (j + 1)
  stand-moves j left =
      let x = stand_after p plan i j in
      let e : suc x ≡ x + 1 = omega arith in
      stand-past (j + 1) (x + 1) (omega (arith, stand-left j left)) (subst (λ s. changes_to p plan i s ≤ j + 1) e (omega (arith, changes-step x, stand-passes j)))

  -- from its change point on to where it stands an item's content is the same
  pub content-kept : (j s : ℕ) → j ≤ changes_to p plan i s → s ≤ stand_after p plan i j → content p plan i s ≡ content p plan i (stand_after p plan i j)
  content-kept j s from to = content-same s (stand_after p plan i j) to (omega (arith, stand-passes j))

  -- so past the stage where it stood before
  pub content-past : (j s : ℕ) → stand_after p plan i j < s → s ≤ stand_after p plan i (j + 1) → content p plan i s ≡ content p plan i (stand_after p plan i (j + 1))
  content-past j s from to = content-kept (j + 1) s (omega (arith, stand-before j s from (omega (arith, stand-most (j + 1))))) to
