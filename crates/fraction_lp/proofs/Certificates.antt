-- Where no number can take the place of one that lacks, its line is a certificate: multipliers that no feasible point allows.
use Rattle.std.proofs.Common.{◌≡◌, ◌≢◌, ℕ, zero, suc, ◌+◌, ◌-◌, ◌<◌, ◌≤◌, Bool, true, false, List, [], ◌∷◌, ◌++◌, Option, Some, None, length, map, get_or, ap, ◌∙◌, sym, subst, refl, arith, add-one, length-append}
use Rattle.std.specs.Prelude.{slice_get, All, if◌then◌else◌, ◌==◌, nat_lt}
use Rattle.std.proofs.lemmas.Bool.{eqb-true, eqb-false, eq-eqb, ltb-true, ltb-false, lt-ltb, le-ltb}
use Rattle.std.proofs.lemmas.List.{length-map, get_or-map}
use Rattle.std.proofs.lemmas.List.Elements.{All-from_get_or, All-head, All-tail}
use Rattle.std.proofs.lemmas.Option.{get_or_from_slice_get, slice_get_within, slice_get-get_or}
use Rattle.fraction_lp.specs.declared.term.Term.{Term}
use Rattle.fraction_lp.specs.Dictionary.{Row}
use Rattle.fraction_lp.specs.Ratio.{Ratio, sum, product, negated, zero_ratio, one_ratio, is_above_zero, is_below_zero}
use Rattle.fraction_lp.specs.Dictionary.{Program, IsWhole, Line, Dictionary, leaving, entering, coefficient_at, line_at, line_in, negated_or_zero, multiplier, multipliers, negated_terms, slack_line, first_dictionary}
use Rattle.fraction_lp.specs.Program.{IsNotNegative, IsNegative, IsCertificate, dot, added, combined}
use Rattle.fraction_lp.proofs.Arithmetic.{Told, itself, summed, multiplied, turned_round, nothing, unit, alike, sum-zero, product_comm, product-zero, product-one}
use Rattle.fraction_lp.proofs.Numbers.{Terms, bounded}
use Rattle.fraction_lp.proofs.Values.{total, value}
use Rattle.fraction_lp.proofs.Sound.{Holds, IsFree, IsProper, leaving_line}
use Rattle.fraction_lp.proofs.Sums.{sum_to, zero-sum, zero-product, sum_to-same, sum_to-sum, sum_to-zero, sum_to-one, sum_to-split, dot-none, dot-sum_to, slack_at, dot-slacks, unit_at, dot-unit_at, unit_at-same, unit_at-other}
use Rattle.fraction_lp.proofs.First.{all_at, slack_has_line, line_is_slack, value-slack}
use Rattle.fraction_lp.proofs.Signs.{negative_is, negated_not_negative, zero_not_negative, one_not_negative}

-- ---- multipliers of all numbers

none_below : (P : ℕ → Type 0) (c k n : ℕ) (ts : List Term) → c < k → Terms P k n ts → coefficient_at c ts ≡ None
none_below P c k n [] h q = refl
none_below P c k n (t ∷ ts) h q = by_test (t.number == c) refl (none_below P c (suc t.number) n ts (let here : k ≤ t.number = q.0 in omega arith) q.2)
  where
    by_test : (b : Bool) → (t.number == c) ≡ b → coefficient_at c ts ≡ None → (if b then Some t.coefficient else coefficient_at c ts) ≡ None
    by_test true e r = let same : t.number ≡ c = eqb-true t.number c e in let here : k ≤ t.number = q.0 in absurd (omega arith)
    by_test false e r = r

plus_nothing : (a x : Ratio) → a ≡ sum a (product zero_ratio x)
plus_nothing a x = sym (ap (sum a) (zero-product x) ∙ sum-zero a)

nothing_plus : (a x : Ratio) → a ≡ sum (product zero_ratio x) a
nothing_plus a x = sym (ap (λ y. sum y a) (zero-product x) ∙ zero-sum a)

-- one term more: its number's multiplier alone changes
one_more : (b : ℕ) (t : Term) (ts : List Term) (k : ℕ) (x : Ratio) → b ≢ t.number → coefficient_at t.number ts ≡ None →
    product (multiplier b (t ∷ ts) k) x ≡ sum (product (multiplier b ts k) x) (product (if t.number == k then negated t.coefficient else zero_ratio) x)
one_more b t ts k x h q = by_tests (k == b) (t.number == k) refl refl
  where
    by_tests : (c d : Bool) → (k == b) ≡ c → (t.number == k) ≡ d →
        product (if c then one_ratio else negated_or_zero (if d then Some t.coefficient else coefficient_at k ts)) x
        ≡ sum (product (if c then one_ratio else negated_or_zero (coefficient_at k ts)) x) (product (if d then negated t.coefficient else zero_ratio) x)
    by_tests true true e r =
        let left : k ≡ b = eqb-true k b e in let right : t.number ≡ k = eqb-true t.number k r in absurd (h (sym (right ∙ left)))
    by_tests true false e r = plus_nothing (product one_ratio x) x
    by_tests false true e r =
        let same : t.number ≡ k = eqb-true t.number k r in
        nothing_plus (product (negated t.coefficient) x) x
        ∙ ap (λ c. sum (product (negated_or_zero c) x) (product (negated t.coefficient) x)) (sym q ∙ ap (λ m. coefficient_at m ts) same)
    by_tests false false e r = plus_nothing (product (negated_or_zero (coefficient_at k ts)) x) x

multiplier-none : (b k : ℕ) → k ≢ b → multiplier b [] k ≡ zero_ratio
multiplier-none b k h = by_test (k == b) refl
  where
    by_test : (c : Bool) → (k == b) ≡ c → (if c then one_ratio else zero_ratio) ≡ zero_ratio
    by_test true e = absurd (h (eqb-true k b e))
    by_test false e = refl

multiplier-own : (b : ℕ) (ts : List Term) → multiplier b ts b ≡ one_ratio
multiplier-own b ts = ap (λ (c : Bool). if c then one_ratio else negated_or_zero (coefficient_at b ts)) (eq-eqb b b refl)

chosen_own : (n : ℕ) (x : Ratio) → (if n == n then x else zero_ratio) ≡ x
chosen_own n x = ap (λ (c : Bool). if c then x else zero_ratio) (eq-eqb n n refl)

chosen_other : (m n : ℕ) (x : Ratio) → n ≢ m → (if m == n then x else zero_ratio) ≡ zero_ratio
chosen_other m n x h = by_test (m == n) refl
  where
    by_test : (c : Bool) → (m == n) ≡ c → (if c then x else zero_ratio) ≡ zero_ratio
    by_test true e = absurd (h (sym (eqb-true m n e)))
    by_test false e = refl

-- all multipliers times the numbers: b less its terms
multiplier_sum : (v : ℕ → Ratio) (P : ℕ → Type 0) (b k n : ℕ) (ts : List Term) → b < n → ((j : ℕ) → P j → b ≢ j) → Terms P k n ts →
    sum_to n (λ j. product (multiplier b ts j) (v j)) ≡ sum (v b) (negated (total v ts))
multiplier_sum v P b k n [] inside f h =
    sum_to-one n b (λ j. product (multiplier b [] j) (v j)) inside
    (λ j q. ap (λ x. product x (v j)) (multiplier-none b j q) ∙ zero-product (v j))
    ∙ ap (λ x. product x (v b)) (multiplier-own b []) ∙ alike (multiplied unit (itself (v b))) (summed (itself (v b)) (turned_round nothing)) (omega arith)
multiplier_sum v P b k n (t ∷ ts) inside f h =
    let own : ℕ → Ratio = λ (j : ℕ). product (if t.number == j then negated t.coefficient else zero_ratio) (v j) in
    let more : suc t.number ≤ n = bounded P (suc t.number) n ts h.2 in
    sum_to-same n (λ j. product (multiplier b (t ∷ ts) j) (v j)) (λ j. sum (product (multiplier b ts j) (v j)) (own j))
    (λ j q. one_more b t ts j (v j) (f t.number h.1) (none_below P t.number (suc t.number) n ts (omega arith) h.2))
    ∙ sum_to-sum n (λ j. product (multiplier b ts j) (v j)) own
    ∙ ap (λ x. sum x (sum_to n own)) (multiplier_sum v P b (suc t.number) n ts inside f h.2)
    ∙ ap (sum (sum (v b) (negated (total v ts))))
    (sum_to-one n t.number own more
    (λ j q. ap (λ x. product x (v j)) (chosen_other t.number j (negated t.coefficient) q) ∙ zero-product (v j))
    ∙ ap (λ x. product x (v t.number)) (chosen_own t.number (negated t.coefficient)))
    ∙ taken_off (v b) (total v ts) t.coefficient (v t.number)
  where
    taken_off : (a s c x : Ratio) → sum (sum a (negated s)) (product (negated c) x) ≡ sum a (negated (sum (product c x) s))
    taken_off a s c x =
        alike (summed (summed (itself a) (turned_round (itself s))) (multiplied (turned_round (itself c)) (itself x)))
        (summed (itself a) (turned_round (summed (multiplied (itself c) (itself x)) (itself s)))) (omega arith)

-- ---- no multiplier is negative

not_above : (k : ℕ) (ts : List Term) (x : Ratio) → entering ts ≡ None → coefficient_at k ts ≡ Some x → is_above_zero x ≡ false
not_above k [] x e h = cc
not_above k (t ∷ ts) x e h = by_tests (is_above_zero t.coefficient) (t.number == k) refl e h (λ q r. not_above k ts x q r)
  where
    by_tests : (c d : Bool) → is_above_zero t.coefficient ≡ c → (if c then Some t else entering ts) ≡ None →
        (if d then Some t.coefficient else coefficient_at k ts) ≡ Some x → (entering ts ≡ None → coefficient_at k ts ≡ Some x → is_above_zero x ≡ false) →
        is_above_zero x ≡ false
    by_tests true d q e h f = cc
    by_tests false true q e h f = let same : t.coefficient ≡ x = cc in ap is_above_zero (sym same) ∙ q
    by_tests false false q e h f = f e h

multiplier_not_negative : (b : ℕ) (ts : List Term) (k : ℕ) → entering ts ≡ None → IsNotNegative (multiplier b ts k)
multiplier_not_negative b ts k e = by_test (k == b)
  where
    by_coefficient : (x : Option Ratio) → coefficient_at k ts ≡ x → IsNotNegative (negated_or_zero x)
    by_coefficient None q = zero_not_negative
    by_coefficient (Some x) q = negated_not_negative x (not_above k ts x e q)

    by_test : (c : Bool) → IsNotNegative (if c then one_ratio else negated_or_zero (coefficient_at k ts))
    by_test true = one_not_negative
    by_test false = by_coefficient (coefficient_at k ts) refl

-- ---- the list of the rows' multipliers

get-pushed : (xs : List Ratio) (x : Ratio) (i : ℕ) → i < length xs → get_or (xs ++ x ∷ []) i zero_ratio ≡ get_or xs i zero_ratio
get-pushed [] x i h = absurd (omega arith)
get-pushed (y ∷ ys) x zero h = refl
get-pushed (y ∷ ys) x (suc i) h = get-pushed ys x i (omega arith)

get-last : (xs : List Ratio) (x : Ratio) (i : ℕ) → i ≡ length xs → get_or (xs ++ x ∷ []) i zero_ratio ≡ x
get-last [] x i h = ap (λ n. get_or (x ∷ []) n zero_ratio) h
get-last (y ∷ ys) x zero h = absurd (omega arith)
get-last (y ∷ ys) x (suc i) h = get-last ys x i (omega arith)

pub length-multipliers : (b : ℕ) (ts : List Term) (k n : ℕ) → length (multipliers b ts k n) ≡ n
length-multipliers b ts k zero = refl
length-multipliers b ts k (suc n) =
    length-append (multipliers b ts k n) (multiplier b ts (k + n) ∷ []) ∙ ap (λ m. m + 1) (length-multipliers b ts k n) ∙ add-one n

get-multipliers : (b : ℕ) (ts : List Term) (k n i : ℕ) → i < n → get_or (multipliers b ts k n) i zero_ratio ≡ multiplier b ts (k + i)
get-multipliers b ts k zero i h = absurd (omega arith)
get-multipliers b ts k (suc n) i h = by_test (i == n) refl (λ q. get-multipliers b ts k n i q)
  where
    by_test : (c : Bool) → (i == n) ≡ c → (i < n → get_or (multipliers b ts k n) i zero_ratio ≡ multiplier b ts (k + i)) →
        get_or (multipliers b ts k n ++ multiplier b ts (k + n) ∷ []) i zero_ratio ≡ multiplier b ts (k + i)
    by_test true e f =
        let same : i ≡ n = eqb-true i n e in
        get-last (multipliers b ts k n) (multiplier b ts (k + n)) i (same ∙ sym (length-multipliers b ts k n)) ∙ ap (λ m. multiplier b ts (k + m)) (sym same)
    by_test false e f =
        let other : i ≢ n = eqb-false i n e in
        let less : i < n = omega arith in
        let long : length (multipliers b ts k n) ≡ n = length-multipliers b ts k n in
        get-pushed (multipliers b ts k n) (multiplier b ts (k + n)) i (omega arith) ∙ f less

-- ---- values of all numbers from those of the unknowns

-- an unknown has its value, or 0, and a slack what its row leaves
abbrev value_from : Program → List Ratio → ℕ → Ratio
value_from p xs k =
    if nat_lt k p.unknowns then get_or xs k zero_ratio else value (λ j. get_or xs j zero_ratio) (line_at k (first_dictionary p))

unknown_value : (p : Program) (xs : List Ratio) (k : ℕ) → k < p.unknowns → value_from p xs k ≡ get_or xs k zero_ratio
unknown_value p xs k h =
    ap (λ (c : Bool). if c then get_or xs k zero_ratio else value (λ j. get_or xs j zero_ratio) (line_at k (first_dictionary p))) (lt-ltb k p.unknowns h)

slack_value : (p : Program) (xs : List Ratio) (i : ℕ) (row : Row) → slice_get p.rows i ≡ Some row → value_from p xs (p.unknowns + i) ≡ slack_at xs row
slack_value p xs i row e =
    let line : Line = record { constant = row.bound; terms = negated_terms 0 row.coefficients } in
    ap (λ (c : Bool). if c then get_or xs (p.unknowns + i) zero_ratio else value (λ j. get_or xs j zero_ratio) (line_at (p.unknowns + i) (first_dictionary p)))
    (le-ltb (p.unknowns + i) p.unknowns (omega arith))
    ∙ ap (λ s. value (λ j. get_or xs j zero_ratio) (line_in s)) (slack_has_line p i row e)
    ∙ value-slack (λ j. get_or xs j zero_ratio) row line xs refl (λ j q. refl)

values_hold : (p : Program) (xs : List Ratio) → IsWhole p → Holds (value_from p xs) (first_dictionary p)
values_hold p xs whole k line e =
    let at = line_is_slack p k line e in
    let long : length at.1.coefficients ≡ p.unknowns = all_at (λ row. length row.coefficients ≡ p.unknowns) p.rows at.0 at.1 whole at.3 in
    ap (value_from p xs) at.2 ∙ slack_value p xs at.0 at.1 at.3
    ∙ sym (value-slack (value_from p xs) at.1 line xs at.4 (λ j q. let inside : j < p.unknowns = omega arith in unknown_value p xs j inside))

-- ---- what b's line says of its multipliers

with_terms_off : (k s : Ratio) → sum (sum k s) (negated s) ≡ k
with_terms_off k s = alike (summed (summed (itself k) (itself s)) (turned_round (itself s))) (itself k) (omega arith)

slacks_sum : (p : Program) (xs : List Ratio) (b : ℕ) (ts : List Term) →
    sum_to (length p.rows) (λ i. product (multiplier b ts (p.unknowns + i)) (value_from p xs (p.unknowns + i)))
    ≡ dot (multipliers b ts p.unknowns (length p.rows)) (map (slack_at xs) p.rows)
slacks_sum p xs b ts =
    let ys : List Ratio = multipliers b ts p.unknowns (length p.rows) in
    sum_to-same (length p.rows) (λ i. product (multiplier b ts (p.unknowns + i)) (value_from p xs (p.unknowns + i)))
    (λ i. product (get_or ys i zero_ratio) (get_or (map (slack_at xs) p.rows) i zero_ratio)) each
    ∙ ap (λ n. sum_to n (λ i. product (get_or ys i zero_ratio) (get_or (map (slack_at xs) p.rows) i zero_ratio)))
    (sym (length-multipliers b ts p.unknowns (length p.rows)))
    ∙ sym (dot-sum_to ys (map (slack_at xs) p.rows))
  where
    row_value : (i : ℕ) (row : Row) → i < length p.rows → slice_get p.rows i ≡ Some row → value_from p xs (p.unknowns + i) ≡ get_or (map (slack_at xs) p.rows) i zero_ratio
    row_value i row h e =
        slack_value p xs i row e ∙ sym (get_or-map (slack_at xs) p.rows i row zero_ratio h ∙ ap (slack_at xs) (get_or_from_slice_get p.rows i row row e))

    some_row : (rows : List Row) (i : ℕ) → i < length rows → (row : Row) × (slice_get rows i ≡ Some row)
    some_row [] i h = absurd (omega arith)
    some_row (row ∷ rows) zero h = (row, refl)
    some_row (row ∷ rows) (suc i) h = some_row rows i (omega arith)

    each : (i : ℕ) → i < length p.rows →
        product (multiplier b ts (p.unknowns + i)) (value_from p xs (p.unknowns + i))
        ≡ product (get_or (multipliers b ts p.unknowns (length p.rows)) i zero_ratio) (get_or (map (slack_at xs) p.rows) i zero_ratio)
    each i h =
        let row = some_row p.rows i h in
        ap (product (multiplier b ts (p.unknowns + i))) (row_value i row.0 h row.1)
        ∙ ap (λ y. product y (get_or (map (slack_at xs) p.rows) i zero_ratio)) (sym (get-multipliers b ts p.unknowns (length p.rows) i h))

-- at all values of the unknowns, the multipliers times the numbers come to the constant
line_says : (p : Program) (d : Dictionary) (b : ℕ) (line : Line) (xs : List Ratio) → IsWhole p → IsProper d → length d ≡ p.unknowns + length p.rows →
    ((v : ℕ → Ratio) → Holds v (first_dictionary p) → Holds v d) → slice_get d b ≡ Some (Some line) →
    sum (sum_to p.unknowns (λ k. product (multiplier b line.terms k) (get_or xs k zero_ratio)))
    (sum (dot (multipliers b line.terms p.unknowns (length p.rows)) (map (λ row. row.bound) p.rows))
    (negated (dot (combined (multipliers b line.terms p.unknowns (length p.rows)) p.rows) xs)))
    ≡ line.constant
line_says p d b line xs whole proper long forth basic =
    let v : ℕ → Ratio = value_from p xs in
    let ys : List Ratio = multipliers b line.terms p.unknowns (length p.rows) in
    let all : ℕ → Ratio = λ (k : ℕ). product (multiplier b line.terms k) (v k) in
    let inside : b < length d = slice_get_within d b (Some line) basic in
    let apart : (j : ℕ) → IsFree d j → b ≢ j =
    λ (j : ℕ) (h : IsFree d j) (q : b ≡ j). let some : slice_get d j ≡ Some (Some line) = ap (slice_get d) (sym q) ∙ basic in let none : slice_get d j ≡ Some None = h in cc in
    ap (λ x. sum x (sum (dot ys (map (λ row. row.bound) p.rows)) (negated (dot (combined ys p.rows) xs))))
    (sum_to-same p.unknowns (λ k. product (multiplier b line.terms k) (get_or xs k zero_ratio)) all
    (λ k q. ap (product (multiplier b line.terms k)) (sym (unknown_value p xs k q))))
    ∙ ap (sum (sum_to p.unknowns all)) (sym (slacks_sum p xs b line.terms ∙ dot-slacks xs ys p.rows))
    ∙ sym (sum_to-split p.unknowns (length p.rows) all)
    ∙ ap (λ n. sum_to n all) (sym long)
    ∙ multiplier_sum v (IsFree d) b 0 (length d) line.terms inside apart (proper b line basic)
    ∙ ap (λ x. sum x (negated (total v line.terms))) (forth v (values_hold p xs whole) b line basic)
    ∙ with_terms_off line.constant (total v line.terms)

bounds_are : (p : Program) (d : Dictionary) (b : ℕ) (line : Line) → IsWhole p → IsProper d → length d ≡ p.unknowns + length p.rows →
    ((v : ℕ → Ratio) → Holds v (first_dictionary p) → Holds v d) → slice_get d b ≡ Some (Some line) →
    dot (multipliers b line.terms p.unknowns (length p.rows)) (map (λ row. row.bound) p.rows) ≡ line.constant
bounds_are p d b line whole proper long forth basic =
    let ys : List Ratio = multipliers b line.terms p.unknowns (length p.rows) in
    let bounds : Ratio = dot ys (map (λ row. row.bound) p.rows) in
    sym (ap (λ x. sum x (sum bounds (negated (dot (combined ys p.rows) []))))
    (sum_to-zero p.unknowns (λ k. product (multiplier b line.terms k) zero_ratio) (λ k q. product-zero (multiplier b line.terms k)))
    ∙ ap (λ x. sum zero_ratio (sum bounds (negated x))) (dot-none (combined ys p.rows))
    ∙ only_bounds bounds)
    ∙ line_says p d b line [] whole proper long forth basic
  where
    only_bounds : (s : Ratio) → sum zero_ratio (sum s (negated zero_ratio)) ≡ s
    only_bounds s = alike (summed nothing (summed (itself s) (turned_round nothing))) (itself s) (omega arith)

-- the rows times their multipliers have the unknown's own multiplier for its coefficient
coefficient_is : (p : Program) (d : Dictionary) (b : ℕ) (line : Line) (j : ℕ) → j < p.unknowns → IsWhole p → IsProper d → length d ≡ p.unknowns + length p.rows →
    ((v : ℕ → Ratio) → Holds v (first_dictionary p) → Holds v d) → slice_get d b ≡ Some (Some line) →
    get_or (combined (multipliers b line.terms p.unknowns (length p.rows)) p.rows) j zero_ratio ≡ multiplier b line.terms j
coefficient_is p d b line j inside whole proper long forth basic =
    let ys : List Ratio = multipliers b line.terms p.unknowns (length p.rows) in
    let c : Ratio = get_or (combined ys p.rows) j zero_ratio in
    let own : ℕ → Ratio = λ (k : ℕ). product (multiplier b line.terms k) (get_or (unit_at j) k zero_ratio) in
    let one : sum_to p.unknowns own ≡ multiplier b line.terms j =
    sum_to-one p.unknowns j own inside
    (λ k q. ap (product (multiplier b line.terms k)) (unit_at-other j k q) ∙ product-zero (multiplier b line.terms k))
    ∙ ap (product (multiplier b line.terms j)) (unit_at-same j) ∙ product-one (multiplier b line.terms j) in
    let says : sum (multiplier b line.terms j) (sum line.constant (negated c)) ≡ line.constant =
    ap (λ x. sum x (sum line.constant (negated c))) (sym one)
    ∙ ap (λ x. sum (sum_to p.unknowns own) (sum x (negated c))) (sym (bounds_are p d b line whole proper long forth basic))
    ∙ ap (λ x. sum (sum_to p.unknowns own) (sum (dot ys (map (λ row. row.bound) p.rows)) (negated x))) (sym (dot-unit_at (combined ys p.rows) j))
    ∙ line_says p d b line (unit_at j) whole proper long forth basic in
    sym (moved (multiplier b line.terms j) line.constant c ∙ ap (λ x. sum x (sum c (negated line.constant))) says ∙ left line.constant c)
  where
    moved : (y k c : Ratio) → y ≡ sum (sum y (sum k (negated c))) (sum c (negated k))
    moved y k c =
        alike (itself y) (summed (summed (itself y) (summed (itself k) (turned_round (itself c)))) (summed (itself c) (turned_round (itself k)))) (omega arith)

    left : (k c : Ratio) → sum k (sum c (negated k)) ≡ c
    left k c = alike (summed (itself k) (summed (itself c) (turned_round (itself k)))) (itself c) (omega arith)

length-added : (n : ℕ) (xs ys : List Ratio) → length xs ≤ n → length ys ≤ n → length (added xs ys) ≤ n
length-added n [] ys p q = q
length-added n (x ∷ xs) [] p q = p
length-added zero (x ∷ xs) (y ∷ ys) p q = absurd (omega arith)
length-added (suc n) (x ∷ xs) (y ∷ ys) p q = let rest : length (added xs ys) ≤ n = length-added n xs ys (omega arith) (omega arith) in omega arith

length-combined : (n : ℕ) (ys : List Ratio) (rows : List Row) → All (λ row. length row.coefficients ≡ n) rows → length (combined ys rows) ≤ n
length-combined n [] rows h = omega arith
length-combined n (y ∷ ys) [] h = omega arith
length-combined n (y ∷ ys) (row ∷ rows) h =
    let here : length row.coefficients ≡ n = All-head (λ r. length r.coefficients ≡ n) row rows h in
    let same : length (map (product y) row.coefficients) ≡ length row.coefficients = length-map row.coefficients (product y) in
    length-added n (map (product y) row.coefficients) (combined ys rows) (omega arith)
    (length-combined n ys rows (All-tail (λ r. length r.coefficients ≡ n) row rows h))

pub is_certificate : (p : Program) (d : Dictionary) (b : ℕ) → IsWhole p → IsProper d → length d ≡ p.unknowns + length p.rows →
    ((v : ℕ → Ratio) → Holds v (first_dictionary p) → Holds v d) → leaving d ≡ Some b → entering (line_at b d).terms ≡ None →
    IsCertificate p (multipliers b (line_at b d).terms p.unknowns (length p.rows))
is_certificate p d b whole proper long forth lacks none =
    let at = leaving_line d b lacks in
    subst (λ (l : Line). IsCertificate p (multipliers b l.terms p.unknowns (length p.rows))) (sym at.2)
    (of_line at.0 at.1 at.3 (ap (λ (l : Line). entering l.terms) (sym at.2) ∙ none))
  where
    of_line : (line : Line) → slice_get d b ≡ Some (Some line) → is_below_zero line.constant ≡ true → entering line.terms ≡ None →
        IsCertificate p (multipliers b line.terms p.unknowns (length p.rows))
    of_line line basic below stuck = record {
      one_each = length-multipliers b line.terms p.unknowns (length p.rows);
      not_negative =
          All-from_get_or IsNotNegative (multipliers b line.terms p.unknowns (length p.rows)) zero_ratio
          (λ i h. let few : i < length p.rows = omega (arith, length-multipliers b line.terms p.unknowns (length p.rows)) in
          subst IsNotNegative (sym (get-multipliers b line.terms p.unknowns (length p.rows) i few))
          (multiplier_not_negative b line.terms (p.unknowns + i) stuck));
      rows_not_negative =
          All-from_get_or IsNotNegative (combined (multipliers b line.terms p.unknowns (length p.rows)) p.rows) zero_ratio
          (λ j h. let few : j < p.unknowns = omega (arith, length-combined p.unknowns (multipliers b line.terms p.unknowns (length p.rows)) p.rows whole) in
          subst IsNotNegative (sym (coefficient_is p d b line j few whole proper long forth basic))
          (multiplier_not_negative b line.terms j stuck));
      bounds_negative =
          subst IsNegative (sym (bounds_are p d b line whole proper long forth basic)) (negative_is line.constant below);
    }
