-- Which numbers terms have: in ascending order between two bounds, each with a property.
use Rattle.std.proofs.Common.{◌≡◌, ◌≢◌, ℕ, zero, suc, ◌+◌, ◌<◌, ◌≤◌, Bool, true, false, List, [], ◌∷◌, ◌++◌, Option, Some, None, ap, ◌∙◌, sym, subst, refl, arith}
use Rattle.std.proofs.Math.Nat.{le_refl}
use Rattle.std.specs.Prelude.{if◌then◌else◌, ◌==◌, nat_lt}
use Rattle.std.proofs.lemmas.Bool.{eqb-true, eqb-false, eq-eqb, ltb-true, ltb-false}
use Rattle.fraction_lp.specs.declared.term.Term.{Term}
use Rattle.fraction_lp.specs.Ratio.{Ratio, times, over, negated, is_zero, is_above_zero}
use Rattle.fraction_lp.specs.Dictionary.{with_first, with_term, term_of, coefficient_at, entering, without, below, from, insert_term, over_each, times_each, plus_times, add_first, add_times}
use Rattle.fraction_lp.proofs.Exchanges.{with_first_parts}
use Rattle.fraction_lp.proofs.Values.{term_of_parts, both_lists_parts}

abbrev pub Terms : (ℕ → Type 0) → ℕ → ℕ → List Term → Type 0
Terms P k n [] = k ≤ n
Terms P k n (t ∷ ts) = (k ≤ t.number) × P t.number × Terms P (suc t.number) n ts

pub bounded : (P : ℕ → Type 0) (k n : ℕ) (ts : List Term) → Terms P k n ts → k ≤ n
bounded P k n [] h = h
bounded P k n (t ∷ ts) h = let more : suc t.number ≤ n = bounded P (suc t.number) n ts h.2 in let here : k ≤ t.number = h.0 in omega arith

pub lowered : (P : ℕ → Type 0) (j k n : ℕ) (ts : List Term) → j ≤ k → Terms P k n ts → Terms P j n ts
lowered P j k n [] p h = omega arith
lowered P j k n (t ∷ ts) p h = let here : k ≤ t.number = h.0 in (omega arith, h.1, h.2)

pub mapped : (P Q : ℕ → Type 0) (k n : ℕ) (ts : List Term) → ((j : ℕ) → P j → Q j) → Terms P k n ts → Terms Q k n ts
mapped P Q k n [] f h = h
mapped P Q k n (t ∷ ts) f h = (h.0, f t.number h.1, mapped P Q (suc t.number) n ts f h.2)

joined : (P : ℕ → Type 0) (k m n : ℕ) (xs ys : List Term) → Terms P k m xs → Terms P m n ys → Terms P k n (xs ++ ys)
joined P k m n [] ys p q = lowered P k m n ys p q
joined P k m n (x ∷ xs) ys p q = (p.0, p.1, joined P (suc x.number) m n xs ys p.2 q)

-- all above a number are apart from it
apart : (P : ℕ → Type 0) (c k n : ℕ) (ts : List Term) → c < k → Terms P k n ts → Terms (λ j. P j × (c ≢ j)) k n ts
apart P c k n [] p h = h
apart P c k n (t ∷ ts) p h =
    let here : k ≤ t.number = h.0 in
    (h.0, (h.1, λ (e : c ≡ t.number). omega arith), apart P c (suc t.number) n ts (omega arith) h.2)

-- a lower bound that no term has is passed
raised : (P : ℕ → Type 0) (m n : ℕ) (ts : List Term) → m < n → ((j : ℕ) → P j → m ≢ j) → Terms P m n ts → Terms P (suc m) n ts
raised P m n [] p f h = omega arith
raised P m n (t ∷ ts) p f h = let other : m ≢ t.number = f t.number h.1 in let here : m ≤ t.number = h.0 in (omega arith, h.1, h.2)

below_at : (P : ℕ → Type 0) (k m n : ℕ) (t : Term) (ts : List Term) (b : Bool) → nat_lt t.number m ≡ b → k ≤ m → Terms P k n (t ∷ ts) →
    (suc t.number ≤ m → Terms P (suc t.number) m (below m ts)) → Terms P k m (if b then t ∷ below m ts else [])
below_at P k m n t ts true e p h f = (h.0, h.1, f (ltb-true t.number m e))
below_at P k m n t ts false e p h f = p

pub terms_below : (P : ℕ → Type 0) (k m n : ℕ) (ts : List Term) → k ≤ m → Terms P k n ts → Terms P k m (below m ts)
terms_below P k m n [] p h = p
terms_below P k m n (t ∷ ts) p h =
    below_at P k m n t ts (nat_lt t.number m) refl p h (λ q. terms_below P (suc t.number) m n ts q h.2)

from_at : (P : ℕ → Type 0) (k m n : ℕ) (t : Term) (ts : List Term) (b : Bool) → nat_lt t.number m ≡ b → Terms P k n (t ∷ ts) →
    (suc t.number ≤ m → Terms P m n (from m ts)) → Terms P m n (if b then from m ts else t ∷ ts)
from_at P k m n t ts true e h f = f (ltb-true t.number m e)
from_at P k m n t ts false e h f = (ltb-false t.number m e, h.1, h.2)

pub terms_from : (P : ℕ → Type 0) (k m n : ℕ) (ts : List Term) → k ≤ m → m ≤ n → Terms P k n ts → Terms P m n (from m ts)
terms_from P k m n [] p q h = q
terms_from P k m n (t ∷ ts) p q h =
    from_at P k m n t ts (nat_lt t.number m) refl h (λ r. terms_from P (suc t.number) m n ts r q h.2)

without_at : (P : ℕ → Type 0) (c k n : ℕ) (t : Term) (ts : List Term) (b : Bool) → (t.number == c) ≡ b → Terms P k n (t ∷ ts) →
    Terms (λ j. P j × (c ≢ j)) (suc t.number) n (without c ts) → Terms (λ j. P j × (c ≢ j)) k n (if b then ts else t ∷ without c ts)
without_at P c k n t ts true e h f =
    let same : t.number ≡ c = eqb-true t.number c e in
    let here : k ≤ t.number = h.0 in
    lowered (λ j. P j × (c ≢ j)) k (suc t.number) n ts (omega arith) (apart P c (suc t.number) n ts (omega arith) h.2)
without_at P c k n t ts false e h f =
    let other : t.number ≢ c = eqb-false t.number c e in (h.0, (h.1, λ (q : c ≡ t.number). other (sym q)), f)

pub terms_without : (P : ℕ → Type 0) (c k n : ℕ) (ts : List Term) → Terms P k n ts → Terms (λ j. P j × (c ≢ j)) k n (without c ts)
terms_without P c k n [] h = h
terms_without P c k n (t ∷ ts) h = without_at P c k n t ts (t.number == c) refl h (terms_without P c (suc t.number) n ts h.2)

pub terms_insert_term : (P Q : ℕ → Type 0) (k n : ℕ) (u : Term) (ts : List Term) → ((j : ℕ) → P j → u.number ≢ j) → ((j : ℕ) → P j → Q j) →
    Q u.number → k ≤ u.number → u.number < n → Terms P k n ts → Terms Q k n (insert_term u ts)
terms_insert_term P Q k n u ts f g q p r h =
    joined Q k u.number n (below u.number ts) (u ∷ from u.number ts)
    (mapped P Q k u.number (below u.number ts) g (terms_below P k u.number n ts p h)) (
      le_refl u.number,
      q,
      mapped P Q (suc u.number) n (from u.number ts) g
          (raised P u.number n (from u.number ts) r f (terms_from P k u.number n ts p (omega arith) h)),
    )

pub terms_over_each : (P : ℕ → Type 0) (k n : ℕ) (p : Ratio) (ts zs : List Term) → over_each p ts ≡ Some zs → Terms P k n ts → Terms P k n zs
terms_over_each P k n p [] zs e h = let none : [] ≡ zs = cc in subst (Terms P k n) none h
terms_over_each P k n p (t ∷ ts) zs e h =
    let parts = with_first_parts (term_of t.number (over (negated t.coefficient) p)) (over_each p ts) zs e in
    let first = term_of_parts t.number (over (negated t.coefficient) p) parts.0 parts.2 in
    let same : parts.0.number ≡ t.number = ap (λ (u : Term). u.number) first.2 in
    let rest : Terms P (suc t.number) n parts.1 = terms_over_each P (suc t.number) n p ts parts.1 parts.3 h.2 in
    subst (Terms P k n) (sym parts.4)
    (subst (λ (m : ℕ). (k ≤ m) × P m × Terms P (suc m) n parts.1) (sym same) (h.0, h.1, rest))

kept_at : (P : ℕ → Type 0) (j k n : ℕ) (y : Ratio) (us : List Term) (b : Bool) → j ≤ k → P k → Terms P (suc k) n us →
    Terms P j n (if b then us else record { number = k; coefficient = y } ∷ us)
kept_at P j k n y us true p q h = lowered P j (suc k) n us (omega arith) h
kept_at P j k n y us false p q h = (p, q, h)

terms_with_term : (P : ℕ → Type 0) (j k n : ℕ) (x : Option Ratio) (ts : Option (List Term)) (zs : List Term) → with_term k x ts ≡ Some zs →
    j ≤ k → P k → ((us : List Term) → ts ≡ Some us → Terms P (suc k) n us) → Terms P j n zs
terms_with_term P j k n None ts zs e p q f = cc
terms_with_term P j k n (Some y) None zs e p q f = cc
terms_with_term P j k n (Some y) (Some us) zs e p q f =
    let same : (if is_zero y then us else record { number = k; coefficient = y } ∷ us) ≡ zs = cc in
    subst (Terms P j n) same (kept_at P j k n y us (is_zero y) p q (f us refl))

pub terms_times_each : (P : ℕ → Type 0) (k n : ℕ) (t : Ratio) (us zs : List Term) → times_each t us ≡ Some zs → Terms P k n us → Terms P k n zs
terms_times_each P k n t [] zs e h = let none : [] ≡ zs = cc in subst (Terms P k n) none h
terms_times_each P k n t (u ∷ us) zs e h =
    terms_with_term P k u.number n (times t u.coefficient) (times_each t us) zs e h.0 h.1
    (λ out q. terms_times_each P (suc u.number) n t us out q h.2)

added_at : (P : ℕ → Type 0) (n : ℕ) (t : Ratio) (x u : Term) (us : List Term) (behind : List Term → Option (List Term)) (zs : List Term) (b : Bool) →
    (u.number == x.number) ≡ b → P x.number → Terms P x.number n (u ∷ us) →
    ((others out : List Term) → Terms P (suc x.number) n others → behind others ≡ Some out → Terms P (suc x.number) n out) →
    (if b then with_term x.number (plus_times x.coefficient t u.coefficient) (behind us) else with_first (Some x) (behind (u ∷ us))) ≡ Some zs →
    Terms P x.number n zs
added_at P n t x u us behind zs true e q h f k =
    let same : u.number ≡ x.number = eqb-true u.number x.number e in
    terms_with_term P x.number x.number n (plus_times x.coefficient t u.coefficient) (behind us) zs k (le_refl x.number) q
    (λ out r. f us out (subst (λ (m : ℕ). Terms P (suc m) n us) same h.2) r)
added_at P n t x u us behind zs false e q h f k =
    let other : u.number ≢ x.number = eqb-false u.number x.number e in
    let here : x.number ≤ u.number = h.0 in
    let parts = with_first_parts (Some x) (behind (u ∷ us)) zs k in
    let same : x ≡ parts.0 = cc in
    let above : suc x.number ≤ u.number = omega arith in
    let rest : Terms P (suc x.number) n parts.1 = f (u ∷ us) parts.1 (above, h.1, h.2) parts.3 in
    subst (Terms P x.number n) (sym (parts.4 ∙ ap (λ (y : Term). y ∷ parts.1) (sym same))) (le_refl x.number, q, rest)

terms_add_first : (P : ℕ → Type 0) (n : ℕ) (t : Ratio) (x : Term) (behind : List Term → Option (List Term)) (us zs : List Term) →
    P x.number → x.number < n → Terms P x.number n us →
    ((others out : List Term) → Terms P (suc x.number) n others → behind others ≡ Some out → Terms P (suc x.number) n out) →
    add_first t x behind us ≡ Some zs → Terms P x.number n zs
terms_add_first P n t x behind [] zs q l h f k =
    let parts = with_first_parts (Some x) (behind []) zs k in
    let same : x ≡ parts.0 = cc in
    let rest : Terms P (suc x.number) n parts.1 = f [] parts.1 l parts.3 in
    subst (Terms P x.number n) (sym (parts.4 ∙ ap (λ (y : Term). y ∷ parts.1) (sym same))) (le_refl x.number, q, rest)
terms_add_first P n t x behind (u ∷ us) zs q l h f k = added_at P n t x u us behind zs (u.number == x.number) refl q h f k

pub terms_add_times : (P : ℕ → Type 0) (k n : ℕ) (t : Ratio) (xs us zs : List Term) → add_times t xs us ≡ Some zs →
    Terms P k n xs → Terms P k n us → Terms P k n zs
terms_add_times P k n t [] us zs e g h = terms_times_each P k n t us zs e h
terms_add_times P k n t (x ∷ xs) us zs e g h =
    let parts = both_lists_parts (times_each t (below x.number us)) (add_first t x (add_times t xs) (from x.number us)) zs e in
    let inside : suc x.number ≤ n = bounded P (suc x.number) n xs g.2 in
    let front : Terms P k x.number parts.0 =
    terms_times_each P k x.number t (below x.number us) parts.0 parts.2 (terms_below P k x.number n us g.0 h) in
    let back : Terms P x.number n parts.1 =
    terms_add_first P n t x (add_times t xs) (from x.number us) parts.1 g.1 inside
    (terms_from P k x.number n us g.0 (omega arith) h)
    (λ others out q r. terms_add_times P (suc x.number) n t xs others out r g.2 q) parts.3 in
    subst (Terms P k n) (sym parts.4) (joined P k x.number n parts.0 parts.1 front back)

absent_at : (P : ℕ → Type 0) (c k n : ℕ) (t : Term) (ts : List Term) (b : Bool) → (t.number == c) ≡ b → Terms P k n (t ∷ ts) →
    (coefficient_at c ts ≡ None → Terms (λ j. P j × (c ≢ j)) (suc t.number) n ts) →
    (if b then Some t.coefficient else coefficient_at c ts) ≡ None → Terms (λ j. P j × (c ≢ j)) k n (t ∷ ts)
absent_at P c k n t ts true e h f q = cc
absent_at P c k n t ts false e h f q =
    let other : t.number ≢ c = eqb-false t.number c e in (h.0, (h.1, λ (r : c ≡ t.number). other (sym r)), f q)

-- a number without a coefficient is none of theirs
pub terms_absent : (P : ℕ → Type 0) (c k n : ℕ) (ts : List Term) → coefficient_at c ts ≡ None → Terms P k n ts → Terms (λ j. P j × (c ≢ j)) k n ts
terms_absent P c k n [] e h = h
terms_absent P c k n (t ∷ ts) e h = absent_at P c k n t ts (t.number == c) refl h (λ q. terms_absent P c (suc t.number) n ts q h.2) e

skipped : (c k : ℕ) (x : Ratio) (rest : Option Ratio) (b : Bool) → (k == c) ≡ b → k < c → rest ≡ (if b then Some x else rest)
skipped c k x rest true e h = let same : k ≡ c = eqb-true k c e in absurd (omega arith)
skipped c k x rest false e h = refl

entering_at : (P : ℕ → Type 0) (k n : ℕ) (u : Term) (us : List Term) (t : Term) (b : Bool) → is_above_zero u.coefficient ≡ b → Terms P k n (u ∷ us) →
    (entering us ≡ Some t → (coefficient_at t.number us ≡ Some t.coefficient) × P t.number × (is_above_zero t.coefficient ≡ true) × (u.number < t.number)) →
    (if b then Some u else entering us) ≡ Some t →
    (coefficient_at t.number (u ∷ us) ≡ Some t.coefficient) × P t.number × (is_above_zero t.coefficient ≡ true) × (k ≤ t.number)
entering_at P k n u us t true e h f q =
    let same : u ≡ t = cc in
    subst (λ (w : Term). (coefficient_at w.number (u ∷ us) ≡ Some w.coefficient) × P w.number × (is_above_zero w.coefficient ≡ true) × (k ≤ w.number)) same
    (itself u.number u.coefficient (coefficient_at u.number us), h.1, e, h.0)
  where
    itself : (m : ℕ) (x : Ratio) (rest : Option Ratio) → (if m == m then Some x else rest) ≡ Some x
    itself m x rest = ap (λ (b : Bool). if b then Some x else rest) (eq-eqb m m refl)
entering_at P k n u us t false e h f q =
    let more = f q in
    let here : k ≤ u.number = h.0 in
    let above : u.number < t.number = more.3 in
    (sym (skipped t.number u.number u.coefficient (coefficient_at t.number us) (u.number == t.number) refl above) ∙ more.0, more.1, more.2, omega arith)

-- the term that enters has its coefficient, which is positive
pub entering_parts : (P : ℕ → Type 0) (k n : ℕ) (ts : List Term) (t : Term) → Terms P k n ts → entering ts ≡ Some t →
    (coefficient_at t.number ts ≡ Some t.coefficient) × P t.number × (is_above_zero t.coefficient ≡ true) × (k ≤ t.number)
entering_parts P k n [] t h e = cc
entering_parts P k n (u ∷ us) t h e =
    entering_at P k n u us t (is_above_zero u.coefficient) refl h (λ q. entering_parts P (suc u.number) n us t h.2 q) e
