-- What each way to an answer comes to.
use Rattle.std.proofs.Common.{◌≡◌, ℕ, ◌-◌, ◌<◌, ◌≤◌, true, false, if◌then◌else◌, inl, inr, sym, ◌∙◌, subst, arith, lt-ltb, le-ltb, eq-eqb, nat_lt, not, ◌&&◌}
use Rattle.std.specs.Prelude.{◌==◌}
use Rattle.std.proofs.lemmas.Bool.{and_from, cases_eq, ne_eqb, or_left, or_right, not_from_false}
use Rattle.lists.proofs.Conditions.{if_false, if_true}
use Rattle.rollout_rules.specs.Wan.{Problem}
use Rattle.scratch_plan.specs.Frame.{has_equal_rates}
use Rattle.fraction_lp.specs.Dictionary.{end_of, IsEndUnlessMemory}
use Rattle.fraction_lp.specs.declared.answer.LpAnswer.{LpAnswer}
use Rattle.fraction_lp.specs.declared.answer.LpAnswer.TheVariants as lp
use Rattle.step_lp.specs.Program.{move_program}
use Rattle.fraction_lp.specs.declared.proof.Proof.TheVariants.{Plain}
use Rattle.lp_proof.specs.Shown.{is_built, is_plain}
use Rattle.lp_proof.specs.Least.{by_link, by_end, by_program, least_of, IsAnswered, IsTried}
use Rattle.lp_proof.specs.declared.least.Least.{Least}
use Rattle.lp_proof.specs.declared.least.Least.TheVariants.{Shown, Fewer, Point, Wide, Overflow, Spent, Memory}
use Rattle.lp_proof.proofs.Built.{IsBuilt, built-parts}

-- ---- which way

pub least-plain : (p : Problem) (q : ℕ) → q < 2 → least_of p q ≡ Shown Plain
least-plain p q lt = if_true (nat_lt q 2) (Shown Plain) (if q == 2 then by_link p else by_program p q) (lt-ltb q 2 lt)

pub least-link : (p : Problem) (q : ℕ) → q ≡ 2 → least_of p q ≡ by_link p
least-link p q e =
    if_false (nat_lt q 2) (Shown Plain) (if q == 2 then by_link p else by_program p q) (le-ltb q 2 (omega arith))
    ∙ if_true (q == 2) (by_link p) (by_program p q) (eq-eqb q 2 e)

pub least-program : (p : Problem) (q : ℕ) → 3 ≤ q → least_of p q ≡ by_program p q
least-program p q some =
    if_false (nat_lt q 2) (Shown Plain) (if q == 2 then by_link p else by_program p q) (le-ltb q 2 (omega arith))
    ∙ if_false (q == 2) (by_link p) (by_program p q) (ne_eqb q 2 (λ (e : q ≡ 2). omega arith))

module _ (p : Problem) (q : ℕ) where
  pub program-wide : is_built p q ≡ false → by_program p q ≡ Wide
  unfolding by_program
  program-wide e = if_false (is_built p q) (by_end p q (end_of (move_program p (q - 1)))) Wide e

  pub program-ends : is_built p q ≡ true → by_program p q ≡ by_end p q (end_of (move_program p (q - 1)))
  unfolding by_program
  program-ends e = if_true (is_built p q) (by_end p q (end_of (move_program p (q - 1)))) Wide e

pub plain-worth : (p : Problem) (q : ℕ) → q < 2 → (q == 0) ≡ has_equal_rates p → is_plain p q ≡ true
plain-worth p q lt still = elim (cases_eq q 0) as (λ c. is_plain p q ≡ true) [
  | inl none ↦ or_left (q == 0) ((q == 1) && not (has_equal_rates p)) (eq-eqb q 0 none)
  | inr some ↦
      or_right (q == 0) ((q == 1) && not (has_equal_rates p))
      (and_from (q == 1) (not (has_equal_rates p)) (eq-eqb q 1 (one some))
      (not_from_false (has_equal_rates p) (sym still ∙ ne_eqb q 0 some)))
]
  where
    one : (q ≡ 0 → ⊥) → q ≡ 1
    one some = elim (cases_eq q 1) as (λ c. q ≡ 1) [
      | inl e ↦ e
      | inr other ↦ absurd (other_none other some)
    ]
      where
        other_none : (q ≡ 1 → ⊥) → (q ≡ 0 → ⊥) → ⊥
        other_none a b = omega (arith, lt, a, b)

pub tried : (p : Problem) (q : ℕ) → is_built p q ≡ true → IsTried q
tried p q e = let built : IsBuilt p q = built-parts p q e in record { least = built.least; most = built.most }

-- ---- from the end that was answered to the end of the method

-- lack of memory answers nothing
of_memory : (result wanted : Least) → IsAnswered result Memory → IsAnswered result wanted
of_memory (Shown proof) wanted e = cc
of_memory (Fewer plan) wanted e = cc
of_memory (Point xs) wanted e = cc
of_memory Wide wanted e = cc
of_memory (Overflow made) wanted e = cc
of_memory (Spent made) wanted e = cc
of_memory Memory wanted e = tt

pub answered-on : (p : Problem) (q : ℕ) (result : Least) (answer end : LpAnswer) → IsEndUnlessMemory answer end →
    IsAnswered result (by_end p q answer) → IsAnswered result (by_end p q end)
answered-on p q result (lp.Point xs) end e a = subst (λ (x : LpAnswer). IsAnswered result (by_end p q x)) (sym e) a
answered-on p q result (lp.Infeasible ys) end e a = subst (λ (x : LpAnswer). IsAnswered result (by_end p q x)) (sym e) a
answered-on p q result (lp.Overflow made) end e a = subst (λ (x : LpAnswer). IsAnswered result (by_end p q x)) (sym e) a
answered-on p q result (lp.Spent made) end e a = subst (λ (x : LpAnswer). IsAnswered result (by_end p q x)) (sym e) a
answered-on p q result lp.Memory end e a = of_memory result (by_end p q end) a
