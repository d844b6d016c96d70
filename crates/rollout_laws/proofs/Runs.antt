-- The run of stages before a stage that pass a test.
use Rattle.std.proofs.Common.{◌≡◌, ℕ, zero, suc, ◌+◌, ◌<◌, ◌≤◌, Bool, true, inl, inr, subst, arith}
use Rattle.std.proofs.lemmas.Bool.{cases_Bool, cases_lt}
use Rattle.rollout_rules.specs.Operations.{run_start}

pub run_start-most : (test : ℕ → Bool) (s : ℕ) → run_start test s ≤ s
run_start-most test zero = omega arith
run_start-most test (suc s) = elim (cases_Bool (test s)) as (λ c. run_start test (suc s) ≤ suc s) [
  | inl passes ↦ rw passes (omega (arith, run_start-most test s))
  | inr fails ↦ rw fails (omega arith)
]

pub run_start-passes : (test : ℕ → Bool) (s u : ℕ) → run_start test s ≤ u → u < s → test u ≡ true
run_start-passes test zero u from to = absurd (omega arith)
run_start-passes test (suc s) u from to = elim (cases_Bool (test s)) as (λ c. test u ≡ true) [
  | inl passes ↦
      let start : run_start test s ≤ u = rw passes at from in
      elim (cases_lt u s) as (λ c. test u ≡ true) [
        | inl before ↦ run_start-passes test s u start before
        | inr at ↦ let e : s ≡ u = omega arith in subst (λ v. test v ≡ true) e passes
      ]
  | inr fails ↦ let past : s + 1 ≤ u = rw fails at from in absurd (omega arith)
]

-- a stage that passes has its run begin at or before it
pub run_start-before : (test : ℕ → Bool) (s : ℕ) → test s ≡ true → run_start test (s + 1) ≤ s
run_start-before test s passes = let e : s + 1 ≡ suc s = omega arith in rw (e, passes) (run_start-most test s)
