-- Whether the run of stages that pass a test, around a stage, begins at or before another stage.
use Rattle.std.proofs.Common.{◌≡◌, ℕ, zero, suc, ◌+◌, ◌<◌, ◌≤◌, Bool, true, false, nat_le, inl, inr, arith, le-leb}
use Rattle.std.proofs.lemmas.Bool.{cases_Bool, cases_lt, lt-leb}
use Rattle.rollout_rules.specs.Operations.{run_start}
use Rattle.rollout_laws.proofs.Runs.{run_start-most, run_start-passes}

-- a later stage has its run begin no earlier
run_start-later : (test : ℕ → Bool) (u s : ℕ) → u ≤ s → run_start test u ≤ run_start test s
run_start-later test u zero le = let e : u ≡ zero = omega (arith, le) in rw e (omega arith)
run_start-later test u (suc s) le = elim (cases_lt s u) as (λ c. run_start test u ≤ run_start test (suc s)) [
  | inl last ↦ let e : u ≡ suc s = omega (arith, le, last) in rw e (omega arith)
  | inr before ↦ elim (cases_Bool (test s)) as (λ c. run_start test u ≤ run_start test (suc s)) [
    | inl passes ↦ rw passes (run_start-later test u s before)
    | inr fails ↦ rw fails (omega (arith, run_start-most test u, before))
  ]
]

-- a stage that passes keeps the run that began by stage n
pub run-goes_on : (test : ℕ → Bool) (n u : ℕ) → test u ≡ true → run_start test u ≤ n → run_start test (u + 1) ≤ n
run-goes_on test n u passes begun = let e : u + 1 ≡ suc u = omega arith in rw (e, passes) begun

-- a stage from n on that fails ends it
pub run-broken : (test : ℕ → Bool) (n u s : ℕ) → n ≤ u → u < s → test u ≡ false → nat_le (run_start test s) n ≡ false
run-broken test n u s from before fails = elim (cases_lt u (run_start test s)) as (λ c. nat_le (run_start test s) n ≡ false) [
  | inl past ↦ lt-leb (run_start test s) n (omega (arith, past, from))
  | inr begun ↦ let passes : test u ≡ true = run_start-passes test s u begun before in cc
]

-- where the run around stage s, or around a later one, began by stage n
pub run-begun : (test : ℕ → Bool) (n u s : ℕ) → s ≤ u → run_start test u ≤ n → nat_le (run_start test s) n ≡ true
run-begun test n u s to begun = le-leb (run_start test s) n (omega (arith, run_start-later test s u to, begun))
