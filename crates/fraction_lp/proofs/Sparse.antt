-- The coefficients of a row are those of the terms that are kept of it.
use Rattle.std.proofs.Common.{◌≡◌, ℕ, zero, suc, ◌+◌, ◌*◌, ◌<◌, Bool, true, false, ℤ, pos, negsuc, nat_abs, List, [], ◌∷◌, length, ap, ◌∙◌, sym, refl, arith}
use Rattle.std.specs.Prelude.{if◌then◌else◌, ◌==◌}
use Rattle.std.proofs.lemmas.Bool.{eq-eqb, ne_eqb, eqb-true}
use borrow.Author.Differences.{up, down}
use Rattle.fraction_lp.specs.declared.term.Term.{Term}
use Rattle.fraction_lp.specs.Ratio.{Ratio, zero_ratio, negated, is_zero}
use Rattle.fraction_lp.specs.Dictionary.{negated_terms, coefficients_of}
use Rattle.fraction_lp.proofs.Arithmetic.{itself, nothing, alike, negated-negated}

pub zero_is : (x : Ratio) → is_zero x ≡ true → x ≡ zero_ratio
zero_is x e = alike (itself x) nothing (parts x.top (eqb-true (nat_abs x.top) 0 e))
  where
    parts : (z : ℤ) → nat_abs z ≡ 0 → up z * 1 + 0 * x.bottom ≡ 0 * x.bottom + down z * 1
    parts (pos n) h = omega arith
    parts (negsuc n) h = absurd (omega arith)

-- the first term, where there is one, has a number above k
abbrev Begins : ℕ → List Term → Type 0
Begins k [] = Unit {0}
Begins k (t ∷ ts) = k < t.number

begins_above : (k j : ℕ) (cs : List Ratio) → k < j → Begins k (negated_terms j cs)
begins_above k j [] h = tt
begins_above k j (x ∷ xs) h = by_test (is_zero x) (begins_above k (j + 1) xs (omega arith))
  where
    by_test : (b : Bool) → Begins k (negated_terms (j + 1) xs) →
        Begins k (if b then negated_terms (j + 1) xs else record { number = j; coefficient = negated x } ∷ negated_terms (j + 1) xs)
    by_test true g = g
    by_test false g = h

passed_over : (k n : ℕ) (ts : List Term) → Begins k ts → coefficients_of k (suc n) ts ≡ zero_ratio ∷ coefficients_of (k + 1) n ts
passed_over k n [] h = refl
passed_over k n (t ∷ ts) h =
    let other : (t.number == k) ≡ false = ne_eqb t.number k (λ (e : t.number ≡ k). omega arith) in
    rw other refl

taken_first : (k n : ℕ) (x : Ratio) (ts : List Term) → coefficients_of k (suc n) (record { number = k; coefficient = negated x } ∷ ts) ≡ x ∷ coefficients_of (k + 1) n ts
taken_first k n x ts =
    let own : (k == k) ≡ true = eq-eqb k k refl in
    rw own (ap (λ (y : Ratio). y ∷ coefficients_of (k + 1) n ts) (negated-negated x))

pub coefficients_kept : (k : ℕ) (cs : List Ratio) → coefficients_of k (length cs) (negated_terms k cs) ≡ cs
coefficients_kept k [] = refl
coefficients_kept k (x ∷ xs) = by_test (is_zero x) refl (coefficients_kept (k + 1) xs)
  where
    by_test : (b : Bool) → is_zero x ≡ b → coefficients_of (k + 1) (length xs) (negated_terms (k + 1) xs) ≡ xs →
        coefficients_of k (suc (length xs)) (if b then negated_terms (k + 1) xs else record { number = k; coefficient = negated x } ∷ negated_terms (k + 1) xs) ≡ x ∷ xs
    by_test true e so =
        passed_over k (length xs) (negated_terms (k + 1) xs) (begins_above k (k + 1) xs (omega arith))
        ∙ ap (λ (ys : List Ratio). zero_ratio ∷ ys) so ∙ ap (λ (y : Ratio). y ∷ xs) (sym (zero_is x e))
    by_test false e so = taken_first k (length xs) x (negated_terms (k + 1) xs) ∙ ap (λ (ys : List Ratio). x ∷ ys) so
