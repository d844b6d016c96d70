-- Where an item stands with one operation more settled.
use Rattle.std.proofs.Common.{◌≡◌, ℕ, suc, ◌+◌, ◌<◌, ◌≤◌, true, inl, inr, refl, sym, ap, ◌∙◌, subst, arith}
use Rattle.std.proofs.lemmas.Bool.{cases_lt}
use Rattle.rollout_rules.specs.Wan.{Problem, Plan, last_stage, next_stage}
use Rattle.rollout_rules.specs.Operations.{changes_behind, changes_to, stand_after}
use Rattle.rollout_rules.specs.declared.item.Item.{Item}
use Rattle.rollout_laws.proofs.Standing.{changes-up, changes-step, stand-most, stand-passes, stand-past, stand-before}

module _ (p : Problem) (plan : Plan) (i : Item) (j here : ℕ) (stands : here ≡ stand_after p plan i j) where
  -- at the last stage it stays
  pub stays_last : here ≡ last_stage plan → last_stage plan ≡ stand_after p plan i (j + 1)
  stays_last last =
      omega (arith, last, stands, stand-most p plan i (j + 1), stand-past p plan i (j + 1) (last_stage plan) (omega arith) (omega (arith, subst (λ s. changes_to p plan i s ≤ j) (last_is) (stand-passes p plan i j))))
    where
      last_is : stand_after p plan i j ≡ last_stage plan
      last_is = omega (arith, last, stands)

  module _ (before : here < last_stage plan) where
    -- the stage after is its next change
    pub next_change : changes_to p plan i (here + 1) ≡ j + 1
    next_change =
        let low : changes_to p plan i here ≤ j = subst (λ s. changes_to p plan i s ≤ j) (back) (stand-passes p plan i j) in
        let high : j < changes_to p plan i (here + 1) = stand-before p plan i j (here + 1) (omega (arith, stands)) (omega arith) in
        let step : changes_to p plan i (suc here) ≤ changes_to p plan i here + 1 = changes-step p plan i here in
        let same : changes_to p plan i (suc here) ≡ changes_to p plan i (here + 1) = subst (λ s. changes_to p plan i (suc here) ≡ changes_to p plan i s) (more) refl in
        omega (arith, low, high, step, same)
      where
        back : stand_after p plan i j ≡ here
        back = omega (arith, stands)

        more : suc here ≡ here + 1
        more = omega arith

    -- up to the stage before the one after that
    pub walked : (r : ℕ) → r ≤ last_stage plan → changes_to p plan i r ≡ j + 1 → (r < last_stage plan → changes_to p plan i (r + 1) ≡ j + 1 + 1) → r ≡ stand_after p plan i (j + 1)
    walked r most at behind =
        let up : r ≤ stand_after p plan i (j + 1) = stand-past p plan i (j + 1) r most (omega (arith, at)) in
        elim (cases_lt r (stand_after p plan i (j + 1))) as (λ c. r ≡ stand_after p plan i (j + 1)) [
          | inl below ↦
              let far = changes-up p plan i (r + 1) (stand_after p plan i (j + 1)) (omega arith) in
              let more = behind (omega (arith, below, stand-most p plan i (j + 1))) in
              absurd (omega (arith, far, more, stand-passes p plan i (j + 1)))
          | inr above ↦ omega (arith, up, above)
        ]

-- what a walk from the stage after finds: the stage before the first change, or the last one
module _ (p : Problem) (plan : Plan) (i : Item) (j here : ℕ) (stands : here ≡ stand_after p plan i j) (inside : here ≤ last_stage plan) where
  pub stopped : (s : ℕ) → s < last_stage plan → next_stage plan here ≤ s → changes_to p plan i s ≡ changes_to p plan i (next_stage plan here) → changes_behind p plan i s ≡ true → s ≡ stand_after p plan i (j + 1)
  stopped s low up same changes =
      let before : here < last_stage plan = omega arith in
      let next : next_stage plan here ≡ here + 1 = omega arith in
      let at : changes_to p plan i s ≡ j + 1 = same ∙ ap (changes_to p plan i) next ∙ next_change p plan i j here stands before in
      let step : changes_to p plan i (suc s) ≡ changes_to p plan i s + 1 = rw changes refl in
      let more : suc s ≡ s + 1 = omega arith in
      let behind : changes_to p plan i (s + 1) ≡ j + 1 + 1 = ap (changes_to p plan i) (sym more) ∙ step ∙ ap (λ x. x + 1) at in
      walked p plan i j here stands before s (omega arith) at (λ _. behind)

  pub ended : changes_to p plan i (last_stage plan) ≡ changes_to p plan i (next_stage plan here) → last_stage plan ≡ stand_after p plan i (j + 1)
  ended same = elim (cases_lt here (last_stage plan)) as (λ c. last_stage plan ≡ stand_after p plan i (j + 1)) [
    | inl before ↦
        let next : next_stage plan here ≡ here + 1 = omega arith in
        let at : changes_to p plan i (last_stage plan) ≡ j + 1 = same ∙ ap (changes_to p plan i) next ∙ next_change p plan i j here stands before in
        walked p plan i j here stands before (last_stage plan) (omega arith) at (λ lt. absurd (omega arith))
    | inr le ↦ stays_last p plan i j here stands (omega arith)
  ]
