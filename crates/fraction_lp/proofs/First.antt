-- The first dictionary: its lines are the slacks of the rows.
use Rattle.std.proofs.Common.{◌≡◌, ◌≢◌, ℕ, zero, suc, ◌+◌, ◌-◌, ◌<◌, ◌≤◌, Bool, true, false, List, [], ◌∷◌, ◌++◌, Option, Some, None, length, map, get_or, ap, ◌∙◌, sym, subst, refl, arith, add-one, length-append}
use Rattle.std.specs.Prelude.{slice_get, All, if◌then◌else◌, ◌==◌, nat_lt}
use Rattle.std.proofs.lemmas.Option.{get_or_from_slice_get, slice_get_within}
use Rattle.std.proofs.lemmas.Bool.{eqb-true, eqb-false, ltb-true, ltb-false}
use Rattle.fraction_lp.specs.declared.term.Term.{Term}
use Rattle.fraction_lp.specs.Dictionary.{Row}
use Rattle.fraction_lp.specs.Ratio.{Ratio, sum, product, negated, is_zero, zero_ratio}
use Rattle.fraction_lp.specs.Dictionary.{Program, IsWhole, Line, Dictionary, negated_terms, slack_line, no_lines, first_dictionary}
use Rattle.fraction_lp.specs.Program.{dot}
use Rattle.fraction_lp.proofs.Arithmetic.{Told, itself, summed, multiplied, turned_round, nothing, alike, negated-sum, negated-product, product-zero}
use Rattle.fraction_lp.proofs.Calls.{zero_product}
use Rattle.fraction_lp.proofs.Exchanges.{length-no_lines, length-first_dictionary}
use Rattle.fraction_lp.proofs.Numbers.{Terms, mapped, lowered}
use Rattle.fraction_lp.proofs.Values.{total, value}
use Rattle.fraction_lp.proofs.Sound.{IsFree, IsProper}
use Rattle.fraction_lp.proofs.Sums.{dot-none, zero-sum, slack_at}

-- ---- slots

get-front : {A : Type 0} (xs ys : List A) (k : ℕ) → k < length xs → slice_get (xs ++ ys) k ≡ slice_get xs k
get-front [] ys k h = absurd (omega arith)
get-front (x ∷ xs) ys zero h = refl
get-front (x ∷ xs) ys (suc k) h = get-front xs ys k (omega arith)

get-back : {A : Type 0} (xs ys : List A) (i : ℕ) → slice_get (xs ++ ys) (length xs + i) ≡ slice_get ys i
get-back [] ys i = ap (slice_get ys) (omega arith)
get-back (x ∷ xs) ys i =
    let here : length (x ∷ xs) + i ≡ suc (length xs + i) = omega arith in
    ap (slice_get (x ∷ (xs ++ ys))) here ∙ get-back xs ys i

get-no_lines : (n k : ℕ) → k < n → slice_get (no_lines n) k ≡ Some None
get-no_lines zero k h = absurd (omega arith)
get-no_lines (suc n) k h = by_place (k == n) refl (λ q. get-no_lines n k q)
  where
    by_place : (b : Bool) → (k == n) ≡ b → (k < n → slice_get (no_lines n) k ≡ Some None) → slice_get (no_lines n ++ None ∷ []) k ≡ Some None
    by_place true e below =
        let same : k ≡ n = eqb-true k n e in
        let there : k ≡ length (no_lines n) + 0 = same ∙ sym (length-no_lines n) ∙ omega arith in
        ap (slice_get (no_lines n ++ None ∷ [])) there ∙ get-back (no_lines n) (None ∷ []) 0
    by_place false e below =
        let other : k ≢ n = eqb-false k n e in
        let less : k < n = omega arith in
        let long : length (no_lines n) ≡ n = length-no_lines n in
        get-front (no_lines n) (None ∷ []) k (omega arith) ∙ below less

get-lines : (rows : List Row) (i : ℕ) (line : Line) → slice_get (map slack_line rows) i ≡ Some (Some line) →
    (row : Row) × (slice_get rows i ≡ Some row) × (slack_line row ≡ Some line)
get-lines [] i line e = cc
get-lines (row ∷ rows) zero line e = (row, refl, cc)
get-lines (row ∷ rows) (suc i) line e = get-lines rows i line e

get-slack : (rows : List Row) (i : ℕ) (row : Row) → slice_get rows i ≡ Some row → slice_get (map slack_line rows) i ≡ Some (slack_line row)
get-slack [] i row e = cc
get-slack (r ∷ rows) zero row e = let same : r ≡ row = cc in ap (λ (x : Row). Some (slack_line x)) same
get-slack (r ∷ rows) (suc i) row e = get-slack rows i row e

pub unknown_is_free : (p : Program) (k : ℕ) → k < p.unknowns → IsFree (first_dictionary p) k
unknown_is_free p k h =
    let long : length (no_lines p.unknowns) ≡ p.unknowns = length-no_lines p.unknowns in
    get-front (no_lines p.unknowns) (map slack_line p.rows) k (omega arith) ∙ get-no_lines p.unknowns k h

pub slack_has_line : (p : Program) (i : ℕ) (row : Row) → slice_get p.rows i ≡ Some row →
    slice_get (first_dictionary p) (p.unknowns + i) ≡ Some (slack_line row)
slack_has_line p i row e =
    let there : p.unknowns + i ≡ length (no_lines p.unknowns) + i = ap (λ n. n + i) (sym (length-no_lines p.unknowns)) in
    ap (slice_get (first_dictionary p)) there ∙ get-back (no_lines p.unknowns) (map slack_line p.rows) i ∙ get-slack p.rows i row e

-- a line of the first dictionary is that of a slack
pub line_is_slack : (p : Program) (k : ℕ) (line : Line) → slice_get (first_dictionary p) k ≡ Some (Some line) →
    (i : ℕ) × (row : Row) × (k ≡ p.unknowns + i) × (slice_get p.rows i ≡ Some row) × (slack_line row ≡ Some line)
line_is_slack p k line e = by_place (nat_lt k p.unknowns) refl
  where
    by_place : (b : Bool) → nat_lt k p.unknowns ≡ b →
        (i : ℕ) × (row : Row) × (k ≡ p.unknowns + i) × (slice_get p.rows i ≡ Some row) × (slack_line row ≡ Some line)
    by_place true q = let none : slice_get (first_dictionary p) k ≡ Some None = unknown_is_free p k (ltb-true k p.unknowns q) in cc
    by_place false q =
        let above : p.unknowns ≤ k = ltb-false k p.unknowns q in
        let split : k ≡ p.unknowns + (k - p.unknowns) = omega arith in
        let there : slice_get (map slack_line p.rows) (k - p.unknowns) ≡ Some (Some line) =
        sym (get-back (no_lines p.unknowns) (map slack_line p.rows) (k - p.unknowns))
        ∙ ap (λ n. slice_get (first_dictionary p) (n + (k - p.unknowns))) (length-no_lines p.unknowns)
        ∙ ap (slice_get (first_dictionary p)) (sym split) ∙ e in
        let parts = get-lines p.rows (k - p.unknowns) line there in
        (k - p.unknowns, parts.0, split, parts.1, parts.2)

-- ---- terms

widened : (P : ℕ → Type 0) (k n m : ℕ) (ts : List Term) → n ≤ m → Terms P k n ts → Terms P k m ts
widened P k n m [] p h = omega arith
widened P k n m (t ∷ ts) p h = (h.0, h.1, widened P (suc t.number) n m ts p h.2)

negated_at : (k n : ℕ) (x : Ratio) (xs : List Ratio) (b : Bool) → suc k ≤ n → Terms (λ j. j < n) (suc k) n (negated_terms (k + 1) xs) →
    Terms (λ j. j < n) k n (if b then negated_terms (k + 1) xs else record { number = k; coefficient = negated x } ∷ negated_terms (k + 1) xs)
negated_at k n x xs true p h = lowered (λ j. j < n) k (suc k) n (negated_terms (k + 1) xs) (omega arith) h
negated_at k n x xs false p h = (omega arith, omega arith, h)

pub terms-negated_terms : (k n : ℕ) (xs : List Ratio) → k + length xs ≤ n → Terms (λ j. j < n) k n (negated_terms k xs)
terms-negated_terms k n [] h = omega arith
terms-negated_terms k n (x ∷ xs) h =
    negated_at k n x xs (is_zero x) (omega arith)
    (subst (λ (m : ℕ). Terms (λ j. j < n) m n (negated_terms (k + 1) xs)) (add-one k) (terms-negated_terms (k + 1) n xs (omega arith)))

pub all_at : {A : Type 0} (P : A → Type 0) (xs : List A) (i : ℕ) (x : A) → All P xs → slice_get xs i ≡ Some x → P x
all_at P xs i x h e = subst P (get_or_from_slice_get xs i x x e) (h i x (slice_get_within xs i x e))

slack_parts : (row : Row) (line : Line) → slack_line row ≡ Some line → (line.constant ≡ row.bound) × (line.terms ≡ negated_terms 0 row.coefficients)
slack_parts row line e =
    let same : record { constant = row.bound; terms = negated_terms 0 row.coefficients } ≡ line = cc in
    (ap (λ (l : Line). l.constant) (sym same), ap (λ (l : Line). l.terms) (sym same))

pub first_is_proper : (p : Program) → IsWhole p → IsProper (first_dictionary p)
first_is_proper p whole k line e =
    let at = line_is_slack p k line e in
    let parts = slack_parts at.1 line at.4 in
    let long : length at.1.coefficients ≡ p.unknowns = all_at (λ row. length row.coefficients ≡ p.unknowns) p.rows at.0 at.1 whole at.3 in
    let all : length (first_dictionary p) ≡ p.unknowns + length p.rows = length-first_dictionary p in
    subst (Terms (IsFree (first_dictionary p)) 0 (length (first_dictionary p))) (sym parts.1)
    (widened (IsFree (first_dictionary p)) 0 p.unknowns (length (first_dictionary p)) (negated_terms 0 at.1.coefficients) (omega arith)
    (mapped (λ j. j < p.unknowns) (IsFree (first_dictionary p)) 0 p.unknowns (negated_terms 0 at.1.coefficients) (unknown_is_free p)
    (terms-negated_terms 0 p.unknowns at.1.coefficients (omega arith))))

-- ---- what a slack's line comes to

value_at : (v : ℕ → Ratio) (k : ℕ) (x : Ratio) (xs : List Ratio) (y : Ratio) (d : Ratio) (b : Bool) → is_zero x ≡ b → v k ≡ y →
    total v (negated_terms (k + 1) xs) ≡ negated d →
    total v (if b then negated_terms (k + 1) xs else record { number = k; coefficient = negated x } ∷ negated_terms (k + 1) xs) ≡ negated (sum (product x y) d)
value_at v k x xs y d true e q h =
    h ∙ ap negated (sym (zero-sum d) ∙ ap (λ a. sum a d) (sym (zero_product x y e)))
value_at v k x xs y d false e q h =
    ap (sum (product (negated x) (v k))) h ∙ ap (λ a. sum (product (negated x) a) (negated d)) q
    ∙ ap (λ a. sum a (negated d)) (sym (negated-product x y)) ∙ sym (negated-sum (product x y) d)

zero_negated : zero_ratio ≡ negated zero_ratio
zero_negated = alike nothing (turned_round nothing) refl

dot-zero : (x : Ratio) → negated (sum (product x zero_ratio) zero_ratio) ≡ negated zero_ratio
dot-zero x = ap negated (ap (λ a. sum a zero_ratio) (product-zero x) ∙ zero-sum zero_ratio)

pub total-negated_terms : (v : ℕ → Ratio) (k : ℕ) (cs xs : List Ratio) → ((j : ℕ) → j < length cs → v (k + j) ≡ get_or xs j zero_ratio) →
    total v (negated_terms k cs) ≡ negated (dot cs xs)
total-negated_terms v k [] xs h = zero_negated
total-negated_terms v k (c ∷ cs) [] h =
    value_at v k c cs zero_ratio zero_ratio (is_zero c) refl (ap v (omega arith) ∙ h 0 (omega arith))
    (total-negated_terms v (k + 1) cs [] (λ j p. ap v (omega arith) ∙ h (suc j) (omega arith)) ∙ ap negated (dot-none cs))
    ∙ dot-zero c
total-negated_terms v k (c ∷ cs) (x ∷ xs) h =
    value_at v k c cs x (dot cs xs) (is_zero c) refl (ap v (omega arith) ∙ h 0 (omega arith))
    (total-negated_terms v (k + 1) cs xs (λ j p. ap v (omega arith) ∙ h (suc j) (omega arith)))

-- a slack's line comes to its row's slack
pub value-slack : (v : ℕ → Ratio) (row : Row) (line : Line) (xs : List Ratio) → slack_line row ≡ Some line →
    ((j : ℕ) → j < length row.coefficients → v j ≡ get_or xs j zero_ratio) → value v line ≡ slack_at xs row
value-slack v row line xs e h =
    let parts = slack_parts row line e in
    ap (λ x. sum x (total v line.terms)) parts.0 ∙ ap (λ ts. sum row.bound (total v ts)) parts.1
    ∙ ap (sum row.bound) (total-negated_terms v 0 row.coefficients xs (λ j p. ap v (omega arith) ∙ h j p))
