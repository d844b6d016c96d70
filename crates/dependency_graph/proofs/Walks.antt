-- An item's operations, walked by the stages at which it changes.
use Rattle.std.proofs.Common.{◌≡◌, ℕ, ◌+◌, ◌<◌, ◌≤◌, Bool, true, false, not, ◌||◌, if◌then◌else◌, inl, inr, refl, sym, ap, ◌∙◌, subst, arith}
use Rattle.std.proofs.lemmas.Bool.{cases_Bool, cases_lt}
use Rattle.rollout_rules.specs.Sums.{all_below}
use Rattle.rollout_rules.specs.Wan.{Problem, Plan, last_stage}
use Rattle.rollout_rules.specs.Operations.{changes_behind, changes_to, operations, stand_after}
use Rattle.rollout_rules.specs.declared.item.Item.{Item}
use Rattle.rollout_rules.proofs.Below.{all_below-at, all_below-from}
use Rattle.rollout_laws.proofs.Standing.{changes-up, stand-most, stand-passes, stand-past, stand-before, stand-up, stand-left, stand-moves}
use Rattle.dependency_graph.specs.FirstFault.{FailsFirst}
use Rattle.dependency_graph.proofs.Changed.{same-test}
use Rattle.dependency_graph.proofs.Elements.{sum_below-more}

-- one number more that passes
pub all_below-more : (test : ℕ → Bool) (n : ℕ) → all_below n test ≡ true → test n ≡ true → all_below (n + 1) test ≡ true
all_below-more test n before here = all_below-from (n + 1) test (λ k lt. elim (cases_lt k n) as (λ _. test k ≡ true) [
  | inl less ↦ all_below-at n test before k less
  | inr last ↦ let same : n ≡ k = omega (arith, lt, last) in subst (λ m. test m ≡ true) same here
])

-- what is known where a change fails the test
stops-there : (b t : Bool) → (not b || t) ≡ false → b ≡ true
stops-there true t e = refl
stops-there false t e = cc

stops-test : (b t : Bool) → (not b || t) ≡ false → t ≡ false
stops-test true t e = e
stops-test false t e = cc

module _ (p : Problem) (plan : Plan) (i : Item) where
  changes-more : (s : ℕ) (b : Bool) → changes_behind p plan i s ≡ b → changes_to p plan i (s + 1) ≡ changes_to p plan i s + (if b then 1 else 0)
  changes-more s b e = omega (arith, sum_below-more s (λ k. if changes_behind p plan i k then 1 else 0), ap {B = ℕ} (λ c. if c then 1 else 0) e)

  -- where it stands it changes
  changes-there : (j : ℕ) → j < operations p plan i → changes_behind p plan i (stand_after p plan i j) ≡ true
  changes-there j left = elim (cases_Bool (changes_behind p plan i (stand_after p plan i j))) as (λ _. changes_behind p plan i (stand_after p plan i j) ≡ true) [
    | inl there ↦ there
    | inr none ↦ absurd (omega (arith, changes-more (stand_after p plan i j) false none, stand-passes p plan i j, stand-before p plan i j (stand_after p plan i j + 1) (omega arith) (omega (arith, stand-left p plan i j left))))
  ]

  -- the stage of a change is where it stood for it
  stood-there : (s : ℕ) → s < last_stage plan → changes_behind p plan i s ≡ true → stand_after p plan i (changes_to p plan i s) ≡ s
  stood-there s lt there = elim (cases_lt s (stand_after p plan i (changes_to p plan i s))) as (λ _. stand_after p plan i (changes_to p plan i s) ≡ s) [
    | inl past ↦ absurd (omega (arith, changes-more s true there, changes-up p plan i (s + 1) (stand_after p plan i (changes_to p plan i s)) (omega (arith, past)), stand-passes p plan i (changes_to p plan i s)))
    | inr upto ↦ omega (arith, upto, stand-past p plan i (changes_to p plan i s) s (omega (arith, lt)) (omega arith))
  ]

  pub walk : (k : ℕ) (test : ℕ → Bool) → k ≤ operations p plan i → all_below (stand_after p plan i k) (λ s. not (changes_behind p plan i s) || test s) ≡ all_below k (λ j. test (stand_after p plan i j))
  walk k test le = same-test (all_below (stand_after p plan i k) (λ s. not (changes_behind p plan i s) || test s)) (all_below k (λ j. test (stand_after p plan i j))) each all
    where
      each : all_below (stand_after p plan i k) (λ s. not (changes_behind p plan i s) || test s) ≡ true → all_below k (λ j. test (stand_after p plan i j)) ≡ true
      each e = all_below-from k (λ j. test (stand_after p plan i j)) (λ j lt.
          let left : j < operations p plan i = omega (arith, lt, le) in
          let up : stand_after p plan i j < stand_after p plan i k = omega (arith, stand-moves p plan i j left, stand-up p plan i (j + 1) k (omega (arith, lt))) in
          subst (λ b. (not b || test (stand_after p plan i j)) ≡ true) (changes-there j left) (all_below-at (stand_after p plan i k) (λ s. not (changes_behind p plan i s) || test s) e (stand_after p plan i j) up))

      all : all_below k (λ j. test (stand_after p plan i j)) ≡ true → all_below (stand_after p plan i k) (λ s. not (changes_behind p plan i s) || test s) ≡ true
      all e = all_below-from (stand_after p plan i k) (λ s. not (changes_behind p plan i s) || test s) (λ s lt.
          elim (cases_Bool (changes_behind p plan i s)) as (λ _. (not (changes_behind p plan i s) || test s) ≡ true) [
            | inr none ↦ rw none refl
            | inl there ↦
                let less : changes_to p plan i s < k = omega (arith, changes-more s true there, changes-up p plan i (s + 1) (stand_after p plan i k) (omega (arith, lt)), stand-passes p plan i k) in
                let met = subst (λ u. test u ≡ true) (stood-there s (omega (arith, lt, stand-most p plan i k)) there) (all_below-at k (λ j. test (stand_after p plan i j)) e (changes_to p plan i s) less) in
                rw (there, met) refl
          ])

  -- Where the walk stops at a stage, the operation that takes the item there from it is the first that fails.
  pub walk-stops : (k s : ℕ) (test : ℕ → Bool) → k ≤ operations p plan i → s < stand_after p plan i k → all_below s (λ u. not (changes_behind p plan i u) || test u) ≡ true → (not (changes_behind p plan i s) || test s) ≡ false → FailsFirst k (λ j. test (stand_after p plan i j)) (changes_to p plan i s)
  walk-stops k s test le lt passed stopped =
      let there = stops-there (changes_behind p plan i s) (test s) stopped in
      let stood = stood-there s (omega (arith, lt, stand-most p plan i k)) there in
      let less : changes_to p plan i s < k = omega (arith, changes-more s true there, changes-up p plan i (s + 1) (stand_after p plan i k) (omega (arith, lt)), stand-passes p plan i k) in
      record {
        there = less;
        fails = ap test stood ∙ stops-test (changes_behind p plan i s) (test s) stopped;
        before = sym (walk (changes_to p plan i s) test (omega (arith, less, le))) ∙ subst (λ m. all_below m (λ u. not (changes_behind p plan i u) || test u) ≡ true) (sym stood) passed;
      }
