-- Workers with ports to switches of their own are served apart.
use Rattle.std.proofs.Common.{◌≡◌, ◌≢◌, ℕ, zero, suc, false, List, [], ◌∷◌, ◌++◌, IsPermutation, sym, ap, ◌∙◌, subst, arith, eq-eqb}
use Rattle.std.specs.Prelude.{nat_eq}
use Rattle.std.specs.List.{Contains, IsDistinct}
use Rattle.std.proofs.lemmas.Bool.{both_ways}
use Rattle.std.proofs.lemmas.List.Elements.{All-contains, All-from_recursion, Contains-append_left, Contains-append_right}
use Rattle.std.proofs.lemmas.Map.Keys.{IsDistinct-head, IsDistinct-tail}
use Rattle.port_session.specs.Sessions.{SessionView}
use Rattle.controller_run.specs.Promises.{switches_of}
use Rattle.controller_run.specs.Shifts.{Shift}
use Rattle.controller_run.specs.Together.{given_ports}
use Rattle.controller_run.proofs.Crews.{distinct_front}
use Rattle.controller_run.proofs.Rows.{map_both}
use Rattle.controller_run.proofs.Taking.{apart_in_any_order}
use Rattle.completion_laws.specs.Finishing.{AreServedApart}

-- in a row without repeats no number is in both parts
parts-apart : (xs ys : List ℕ) → IsDistinct nat_eq (xs ++ ys) → (n : ℕ) → Contains xs n → Contains ys n → ⊥
parts-apart [] ys distinct n at there = omega (arith, at.1)
parts-apart (x ∷ xs) ys distinct n (zero, inside, is) there =
    let others = All-from_recursion (λ (m : ℕ). nat_eq x m ≡ false) (xs ++ ys) (IsDistinct-head nat_eq x (xs ++ ys) distinct) in
    both_ways (nat_eq x n) (All-contains (λ (m : ℕ). nat_eq x m ≡ false) (xs ++ ys) n others (Contains-append_right xs ys n there)) (eq-eqb x n is)
parts-apart (x ∷ xs) ys distinct n (suc k, inside, is) there = parts-apart xs ys (IsDistinct-tail nat_eq x (xs ++ ys) distinct) n (k, omega (arith, inside), is) there

module _ {P : Type 0} where
  abbrev own : Shift P → List ℕ
  own s = switches_of s.given.before.ports

  abbrev all : List (Shift P) → List ℕ
  all shifts = switches_of (given_ports shifts)

  ahead : (s : Shift P) (shifts : List (Shift P)) → all (s ∷ shifts) ≡ own s ++ all shifts
  ahead s shifts = map_both (λ (t : SessionView P). t.switch) s.given.before.ports (given_ports shifts)

  -- a worker's switch is one of all
  one-of-all : (shifts : List (Shift P)) (s : Shift P) → Contains shifts s → (n : ℕ) → Contains (own s) n → Contains (all shifts) n
  one-of-all [] s at n here = absurd (omega (arith, at.1))
  one-of-all (r ∷ shifts) s (zero, inside, is) n here =
      subst (λ (l : List ℕ). Contains l n) (sym (ahead r shifts)) (Contains-append_left (own r) (all shifts) n (subst (λ (q : Shift P). Contains (own q) n) (sym is) here))
  one-of-all (r ∷ shifts) s (suc k, inside, is) n here =
      subst (λ (l : List ℕ). Contains l n) (sym (ahead r shifts)) (Contains-append_right (own r) (all shifts) n (one-of-all shifts s (k, omega (arith, inside), is) n here))

  -- the first worker's switches are none of the others'
  first-apart : (s : Shift P) (shifts : List (Shift P)) → IsDistinct nat_eq (all (s ∷ shifts)) → (a b : Shift P) → s ≡ a → Contains shifts b → (n : ℕ) → Contains (own a) n → Contains (own b) n → ⊥
  first-apart s shifts distinct a b is at n here there =
      parts-apart (own s) (all shifts) (subst (λ (l : List ℕ). IsDistinct nat_eq l) (ahead s shifts) distinct) n (subst (λ (q : Shift P). Contains (own q) n) (sym is) here) (one-of-all shifts b at n there)

  serve-apart : (shifts : List (Shift P)) → IsDistinct nat_eq (all shifts) → (a b : Shift P) → Contains shifts a → Contains shifts b → a.given.seat ≢ b.given.seat → (n : ℕ) → Contains (own a) n → Contains (own b) n → ⊥
  serve-apart [] distinct a b at_a at_b other n here there = omega (arith, at_a.1)
  serve-apart (s ∷ shifts) distinct a b (zero, in_a, is_a) (zero, in_b, is_b) other n here there = other (ap (λ (q : Shift P). q.given.seat) (sym is_a ∙ is_b))
  serve-apart (s ∷ shifts) distinct a b (zero, in_a, is_a) (suc j, in_b, is_b) other n here there = first-apart s shifts distinct a b is_a (j, omega (arith, in_b), is_b) n here there
  serve-apart (s ∷ shifts) distinct a b (suc i, in_a, is_a) (zero, in_b, is_b) other n here there = first-apart s shifts distinct b a is_b (i, omega (arith, in_a), is_a) n there here
  serve-apart (s ∷ shifts) distinct a b (suc i, in_a, is_a) (suc j, in_b, is_b) other n here there =
      serve-apart shifts (behind distinct) a b (i, omega (arith, in_a), is_a) (j, omega (arith, in_b), is_b) other n here there
    where
      drop : (xs ys : List ℕ) → IsDistinct nat_eq (xs ++ ys) → IsDistinct nat_eq ys
      drop [] ys distinct = distinct
      drop (x ∷ xs) ys distinct = drop xs ys (IsDistinct-tail nat_eq x (xs ++ ys) distinct)

      behind : IsDistinct nat_eq (all (s ∷ shifts)) → IsDistinct nat_eq (all shifts)
      behind distinct = drop (own s) (all shifts) (subst (λ (l : List ℕ). IsDistinct nat_eq l) (ahead s shifts) distinct)

  pub served-apart : (shifts : List (Shift P)) (spare opened : List (SessionView P)) → IsPermutation opened (given_ports shifts ++ spare) → IsDistinct nat_eq (switches_of opened) → AreServedApart shifts
  served-apart shifts spare opened same distinct = serve-apart shifts (distinct_front (given_ports shifts) spare (apart_in_any_order opened (given_ports shifts ++ spare) same distinct))
