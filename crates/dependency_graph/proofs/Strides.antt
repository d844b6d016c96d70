-- Where one operation more takes an item.
use Rattle.std.proofs.Common.{◌≡◌, ℕ, suc, ◌+◌, ◌<◌, ◌≤◌, true, false, inl, inr, refl, ap, subst, arith}
use Rattle.std.proofs.lemmas.Bool.{cases_lt}
use Rattle.rollout_rules.specs.Wan.{Problem, Plan, last_stage}
use Rattle.rollout_rules.specs.Operations.{changes_behind, changes_to, stand_after}
use Rattle.rollout_rules.specs.declared.item.Item.{Item}
use Rattle.rollout_laws.proofs.Standing.{changes-up, changes-step, stand-most, stand-passes, stand-past, stand-before}

module _ (p : Problem) (plan : Plan) (i : Item) where
  -- up to the stage after the one where it stands there is at most one change more
  pub changes-behind : (from j s : ℕ) → from ≡ stand_after p plan i j → s ≤ from + 1 → changes_to p plan i s ≤ j + 1
  changes-behind from j s is le = omega (arith, changes-up p plan i s (suc from) (omega (arith, le)), changes-step p plan i from, ap (changes_to p plan i) is, stand-passes p plan i j)

  pub changes-still : (s j : ℕ) → changes_behind p plan i s ≡ false → changes_to p plan i s ≤ j + 1 → changes_to p plan i (s + 1) ≤ j + 1
  changes-still s j still few =
      let e : suc s ≡ s + 1 = omega arith in
      let same : changes_to p plan i (suc s) ≡ changes_to p plan i s + 0 = rw still refl in
      subst (λ n. changes_to p plan i n ≤ j + 1) e (omega (arith, same, few))

  -- before the next change
  pub stands-there : (from j s : ℕ) → from ≡ stand_after p plan i j → from < s → s < last_stage plan → changes_behind p plan i s ≡ true → changes_to p plan i s ≤ j + 1 → s ≡ stand_after p plan i (j + 1)
  stands-there from j s is past before changes few =
      let up = stand-past p plan i (j + 1) s (omega (arith, before)) few in
      let least = stand-before p plan i j s (omega (arith, past, is)) (omega (arith, before)) in
      let more : changes_to p plan i (suc s) ≡ changes_to p plan i s + 1 = rw changes refl in
      elim (cases_lt s (stand_after p plan i (j + 1))) as (λ _. s ≡ stand_after p plan i (j + 1)) [
        | inl beyond ↦ absurd (omega (arith, changes-up p plan i (suc s) (stand_after p plan i (j + 1)) (omega (arith, beyond)), more, least, stand-passes p plan i (j + 1)))
        | inr at ↦ omega (arith, up, at)
      ]

  -- at the last stage, where none comes
  pub stands-last : (j s : ℕ) → s ≡ last_stage plan → changes_to p plan i s ≤ j + 1 → s ≡ stand_after p plan i (j + 1)
  stands-last j s is few = omega (arith, is, stand-past p plan i (j + 1) s (omega (arith, is)) few, stand-most p plan i (j + 1))
