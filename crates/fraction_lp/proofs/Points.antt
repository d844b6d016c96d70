-- Where no number lacks, the constants are a point that satisfies every row.
use Rattle.std.proofs.Common.{◌≡◌, ◌≢◌, ℕ, zero, suc, ◌+◌, ◌-◌, ◌<◌, ◌≤◌, Bool, true, false, List, [], ◌∷◌, ◌++◌, Option, Some, None, length, map, take, get_or, ap, ◌∙◌, sym, subst, refl, arith}
use Rattle.std.specs.Prelude.{slice_get, All, position, nat_lt, cond, not}
use Rattle.std.proofs.lemmas.List.{length-map, length-take}
use Rattle.std.proofs.lemmas.List.Elements.{All-from_get_or}
use Rattle.std.specs.List.{position_or_len}
use Rattle.std.proofs.lemmas.Bool.{ltb-false}
use Rattle.std.proofs.lemmas.Option.{get_or_from_slice_get, slice_get_within, slice_get-get_or}
use Rattle.fraction_lp.specs.declared.term.Term.{Term}
use Rattle.fraction_lp.specs.Dictionary.{Row}
use Rattle.fraction_lp.specs.Ratio.{Ratio, sum, product, zero_ratio, is_below_zero}
use Rattle.fraction_lp.specs.Dictionary.{Program, IsWhole, Line, Dictionary, is_lacking, leaving, constant_of, point_of, negated_terms, slack_line, first_dictionary}
use Rattle.fraction_lp.specs.Program.{IsNotNegative, RowHolds, IsFeasible, dot}
use Rattle.fraction_lp.proofs.Arithmetic.{sum-zero, product-zero}
use Rattle.fraction_lp.proofs.Exchanges.{length-first_dictionary}
use Rattle.fraction_lp.proofs.Numbers.{Terms}
use Rattle.fraction_lp.proofs.Values.{total, value}
use Rattle.fraction_lp.proofs.Sound.{Holds, IsFree, IsProper}
use Rattle.fraction_lp.proofs.Sums.{zero-sum, slack_at}
use Rattle.fraction_lp.proofs.First.{all_at, slack_has_line, value-slack}
use Rattle.fraction_lp.proofs.Signs.{not_negative_is, zero_not_negative, at_most_from_slack}

abbrev constant_in : Option (Option Line) → Ratio
constant_in None = zero_ratio
constant_in (Some slot) = constant_of slot

-- the values at which every number that isn't basic is 0
abbrev constant_at : Dictionary → ℕ → Ratio
constant_at d k = constant_in (slice_get d k)

total-free : (d : Dictionary) (k n : ℕ) (ts : List Term) → Terms (IsFree d) k n ts → total (constant_at d) ts ≡ zero_ratio
total-free d k n [] h = refl
total-free d k n (t ∷ ts) h =
    ap (λ x. sum (product t.coefficient x) (total (constant_at d) ts)) (ap constant_in h.1)
    ∙ ap (λ x. sum x (total (constant_at d) ts)) (product-zero t.coefficient)
    ∙ zero-sum (total (constant_at d) ts) ∙ total-free d (suc t.number) n ts h.2

constants_hold : (d : Dictionary) → IsProper d → Holds (constant_at d) d
constants_hold d proper k line e =
    ap constant_in e ∙ sym (ap (sum line.constant) (total-free d 0 (length d) line.terms (proper k line e)) ∙ sum-zero line.constant)

slot_not_negative : (slot : Option Line) → is_lacking slot ≡ false → IsNotNegative (constant_of slot)
slot_not_negative None e = zero_not_negative
slot_not_negative (Some line) e = not_negative_is line.constant e

none_passes : {A : Type 0} (test : A → Bool) (xs : List A) (k : ℕ) (x : A) → length xs ≤ position_or_len test xs → k < length xs → test (get_or xs k x) ≡ false
none_passes test [] k x h q = absurd (omega arith)
none_passes test (y ∷ ys) k x h q = by_test (test y) refl h k q (λ r j s. none_passes test ys j x r s)
  where
    by_test : (b : Bool) → test y ≡ b → suc (length ys) ≤ cond (not b) (1 + position_or_len test ys) 0 → (k : ℕ) → k < suc (length ys) →
        (length ys ≤ position_or_len test ys → (j : ℕ) → j < length ys → test (get_or ys j x) ≡ false) → test (get_or (y ∷ ys) k x) ≡ false
    by_test true e h k q f = absurd (omega arith)
    by_test false e h zero q f = e
    by_test false e h (suc k) q f = f (omega arith) k (omega arith)

no_position : {A : Type 0} (test : A → Bool) (xs : List A) → position test xs ≡ None → length xs ≤ position_or_len test xs
no_position test xs e = by_test (nat_lt (position_or_len test xs) (length xs)) refl e
  where
    by_test : (b : Bool) → nat_lt (position_or_len test xs) (length xs) ≡ b → cond b (Some (position_or_len test xs)) None ≡ None → length xs ≤ position_or_len test xs
    by_test true q h = cc
    by_test false q h = ltb-false (position_or_len test xs) (length xs) q

constants_not_negative : (d : Dictionary) → leaving d ≡ None → (k : ℕ) → IsNotNegative (constant_at d k)
constants_not_negative d e k = by_slot (slice_get d k) refl
  where
    by_slot : (slot : Option (Option Line)) → slice_get d k ≡ slot → IsNotNegative (constant_in slot)
    by_slot None q = zero_not_negative
    by_slot (Some slot) q =
        let inside : k < length d = slice_get_within d k slot q in
        slot_not_negative slot (ap is_lacking (sym (get_or_from_slice_get d k slot None q)) ∙ none_passes is_lacking d k None (no_position is_lacking d e) inside)

point-get : (n : ℕ) (d : Dictionary) (j : ℕ) → j < n → get_or (map constant_of (take n d)) j zero_ratio ≡ constant_at d j
point-get zero d j h = absurd (omega arith)
point-get (suc n) [] j h = refl
point-get (suc n) (slot ∷ d) zero h = refl
point-get (suc n) (slot ∷ d) (suc j) h = point-get n d j (omega arith)

length-point : (p : Program) (d : Dictionary) → length d ≡ p.unknowns + length p.rows → length (point_of p d) ≡ p.unknowns
length-point p d e = length-map (take p.unknowns d) constant_of ∙ length-take p.unknowns d ∙ omega arith

pub is_feasible : (p : Program) (d : Dictionary) → IsWhole p → IsProper d → length d ≡ p.unknowns + length p.rows →
    ((v : ℕ → Ratio) → Holds v d → Holds v (first_dictionary p)) → leaving d ≡ None → IsFeasible p (point_of p d)
is_feasible p d whole proper long back none = record {
  one_each = length-point p d long;
  not_negative =
      All-from_get_or IsNotNegative (point_of p d) zero_ratio
      (λ j h. let inside : j < p.unknowns = omega (arith, length-point p d long) in
      subst IsNotNegative (sym (point-get p.unknowns d j inside)) (constants_not_negative d none j));
  rows_hold = λ i r h. row_holds i (get_or p.rows i r) (slice_get-get_or p.rows i r h);
}
  where
    row_holds : (i : ℕ) (row : Row) → slice_get p.rows i ≡ Some row → RowHolds (point_of p d) row
    row_holds i row e =
        let line : Line = record { constant = row.bound; terms = negated_terms 0 row.coefficients } in
        let holds : constant_at d (p.unknowns + i) ≡ value (constant_at d) line =
        back (constant_at d) (constants_hold d proper) (p.unknowns + i) line (slack_has_line p i row e) in
        let long : length row.coefficients ≡ p.unknowns = all_at (λ row. length row.coefficients ≡ p.unknowns) p.rows i row whole e in
        let same : constant_at d (p.unknowns + i) ≡ slack_at (point_of p d) row =
        holds ∙ value-slack (constant_at d) row line (point_of p d) refl
        (λ j q. let inside : j < p.unknowns = omega arith in sym (point-get p.unknowns d j inside)) in
        at_most_from_slack (dot row.coefficients (point_of p d)) row.bound
        (subst IsNotNegative same (constants_not_negative d none (p.unknowns + i)))
