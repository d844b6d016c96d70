-- Multipliers that the calls accept are a certificate, and a certificate whose sums are formed is accepted.
use Rattle.std.proofs.Common.{◌≡◌, ℕ, zero, suc, ◌+◌, ◌<◌, ◌≤◌, Bool, true, false, ◌&&◌, List, [], ◌∷◌, Option, Some, None, length, map, get_or, inl, inr, subst, ap, ◌∙◌, sym, refl, arith}
use Rattle.std.specs.Prelude.{All, IsSome, ◌==◌, if◌then◌else◌}
use Rattle.std.proofs.lemmas.Bool.{false≢true, and_parts, and_from, and_left, and_right, cases_eq, cases_lt, eqb-true, eq-eqb, ne_eqb, not-true, not_from_false}
use Rattle.std.proofs.lemmas.Int.{ints}
use Rattle.std.proofs.lemmas.List.{length-map}
use Rattle.std.proofs.lemmas.List.Elements.{All-head, All-tail, All-from_get_or}
use Rattle.fraction_lp.specs.declared.term.Term.{Term}
use Rattle.fraction_lp.specs.declared.column.Column.{Column}
use Rattle.fraction_lp.specs.declared.column.Column.TheVariants.{Unknown, Bounds}
use Rattle.fraction_lp.specs.Ratio.{Ratio, zero_ratio, sum, product, negated, is_zero, is_below_zero}
use Rattle.fraction_lp.specs.Dictionary.{Row, Program, HasWholeRows, IsWhole, plus_times, negated_terms, coefficients_of, coefficient_at, negated_or_zero}
use Rattle.fraction_lp.specs.Program.{IsNotNegative, IsNegative, IsCertificate, dot, added, combined}
use Rattle.fraction_lp.specs.Excluding.{each_below, entry_at, multiplier_at, plus_product, added_to, column_sum, is_formed_not_below, is_formed_below, multiplier_passes, unknown_passes, excludes, AreFormed}
use Rattle.fraction_lp.proofs.Arithmetic.{sum-zero, product-zero, negated-negated}
use Rattle.fraction_lp.proofs.Calls.{plus_times_is}
use Rattle.fraction_lp.proofs.Signs.{negative_is, not_negative_is, zero_not_negative}
use Rattle.fraction_lp.proofs.Sparse.{zero_is}
use Rattle.fraction_lp.proofs.Sums.{sum_to, zero-sum, sum_to-same, sum_to-front, dot-sum_to}

-- ---- tests over the numbers below a bound

each_below-at : (n : ℕ) (test : ℕ → Bool) → each_below n test ≡ true → (k : ℕ) → k < n → test k ≡ true
each_below-at zero test e k lt = absurd (omega arith)
each_below-at (suc n) test e k lt = elim (cases_lt k n) as (λ c. test k ≡ true) [
  | inl below ↦ each_below-at n test (and_parts (each_below n test) (test n) e).0 k below
  | inr above ↦ let at : k ≡ n = omega arith in rw at (and_parts (each_below n test) (test n) e).1
]

each_below-from : (n : ℕ) (test : ℕ → Bool) → ((k : ℕ) → k < n → test k ≡ true) → each_below n test ≡ true
each_below-from zero test h = refl
each_below-from (suc n) test h = and_from (each_below n test) (test n) (each_below-from n test (λ k lt. h k (omega arith))) (h n (omega arith))

-- one number that fails the test decides
pub each_below_stops : (test : ℕ → Bool) (n i : ℕ) → i < n → test i ≡ false → each_below n test ≡ false
each_below_stops test zero i h e = absurd (omega arith)
each_below_stops test (suc n) i h e = elim (cases_eq i n) as (λ _. (each_below n test && test n) ≡ false) [
  | inl same ↦ and_right (each_below n test) (test n) (subst (λ x. test x ≡ false) same e)
  | inr other ↦ and_left (each_below n test) (test n) (each_below_stops test n i (omega arith) e)
]

-- ---- what a row has for an unknown, by the terms that are kept of it

none_ahead : (j k : ℕ) (cs : List Ratio) → j < k → coefficient_at j (negated_terms k cs) ≡ None
none_ahead j k [] h = refl
none_ahead j k (x ∷ xs) h = by_test (is_zero x) (none_ahead j (k + 1) xs (omega arith))
  where
    by_test : (b : Bool) → coefficient_at j (negated_terms (k + 1) xs) ≡ None →
        coefficient_at j (if b then negated_terms (k + 1) xs else record { number = k; coefficient = negated x } ∷ negated_terms (k + 1) xs) ≡ None
    by_test true so = so
    by_test false so = let other : (k == j) ≡ false = ne_eqb k j (λ (e : k ≡ j). omega arith) in rw other so

read_here : (j k : ℕ) (x : Ratio) (xs : List Ratio) (b : Bool) → is_zero x ≡ b → j ≡ k →
    negated_or_zero (coefficient_at j (if b then negated_terms (k + 1) xs else record { number = k; coefficient = negated x } ∷ negated_terms (k + 1) xs)) ≡ x
read_here j k x xs true z e = ap negated_or_zero (none_ahead j (k + 1) xs (omega arith)) ∙ sym (zero_is x z)
read_here j k x xs false z e = let own : (k == j) ≡ true = eq-eqb k j (sym e) in rw own (negated-negated x)

read_later : (j k : ℕ) (x y : Ratio) (xs : List Ratio) (b : Bool) → k < j → negated_or_zero (coefficient_at j (negated_terms (k + 1) xs)) ≡ y →
    negated_or_zero (coefficient_at j (if b then negated_terms (k + 1) xs else record { number = k; coefficient = negated x } ∷ negated_terms (k + 1) xs)) ≡ y
read_later j k x y xs true lt so = so
read_later j k x y xs false lt so = let other : (k == j) ≡ false = ne_eqb k j (λ (e : k ≡ j). omega arith) in rw other so

read_from : (k : ℕ) (cs : List Ratio) (u j : ℕ) → j ≡ k + u → negated_or_zero (coefficient_at j (negated_terms k cs)) ≡ get_or cs u zero_ratio
read_from k [] u j e = refl
read_from k (x ∷ xs) zero j e = read_here j k x xs (is_zero x) refl (omega arith)
read_from k (x ∷ xs) (suc u) j e = read_later j k x (get_or xs u zero_ratio) xs (is_zero x) (omega arith) (read_from (k + 1) xs u j (omega arith))

pub entry_read : (u n : ℕ) (ts : List Term) → negated_terms 0 (coefficients_of 0 n ts) ≡ ts →
    negated_or_zero (coefficient_at u ts) ≡ get_or (coefficients_of 0 n ts) u zero_ratio
entry_read u n ts e =
    ap (λ (us : List Term). negated_or_zero (coefficient_at u us)) (sym e) ∙ read_from 0 (coefficients_of 0 n ts) u u (omega arith)

-- ---- a sum that is formed is the sum

then_more : (so_far : Option Ratio) (y a x : Ratio) → plus_product so_far y a ≡ Some x →
    (b : Ratio) × (so_far ≡ Some b) × (x ≡ sum b (product y a))
then_more None y a x e = cc
then_more (Some b) y a x e = (b, refl, plus_times_is b y a x e)

added_to-value : (n : ℕ) (y a : ℕ → Ratio) (x : Ratio) → added_to n y a ≡ Some x → x ≡ sum_to n (λ i. product (y i) (a i))
added_to-value zero y a x e = cc
added_to-value (suc n) y a x e =
    let parts = then_more (added_to n y a) (y n) (a n) x e in
    parts.2 ∙ ap (λ b. sum b (product (y n) (a n))) (added_to-value n y a parts.0 parts.1)

-- what isn't formed so far isn't later
none_on : (y a : ℕ → Ratio) (n k : ℕ) → k ≤ n → added_to k y a ≡ None → added_to n y a ≡ None
none_on y a zero k le e = let at : k ≡ 0 = omega arith in subst (λ (m : ℕ). added_to m y a ≡ None) at e
none_on y a (suc n) k le e = elim (cases_lt k (suc n)) as (λ c. added_to (suc n) y a ≡ None) [
  | inl less ↦ ap (λ (s : Option Ratio). plus_product s (y n) (a n)) (none_on y a n k (omega arith) e)
  | inr more ↦ let at : k ≡ suc n = omega arith in subst (λ (m : ℕ). added_to m y a ≡ None) at e
]

pub unformed-next : (y a : ℕ → Ratio) (n k : ℕ) (x : Ratio) → k < n → added_to k y a ≡ Some x → None ≡ plus_times x (y k) (a k) → None ≡ added_to n y a
unformed-next y a n k x lt so none =
    let here : added_to (suc k) y a ≡ None = ap (λ (s : Option Ratio). plus_product s (y k) (a k)) so ∙ sym none in
    sym (none_on y a n (suc k) (omega arith) here)

pub formed-next : (y a : ℕ → Ratio) (k : ℕ) (x z : Ratio) → added_to k y a ≡ Some x → Some z ≡ plus_times x (y k) (a k) → added_to (k + 1) y a ≡ Some z
formed-next y a k x z so is =
    let here : added_to (suc k) y a ≡ Some z = ap (λ (s : Option Ratio). plus_product s (y k) (a k)) so ∙ sym is in
    let more : k + 1 ≡ suc k = omega arith in
    subst (λ (m : ℕ). added_to m y a ≡ Some z) (sym more) here

-- ---- the combination of the rows, unknown by unknown

added-at : (xs zs : List Ratio) (u : ℕ) → get_or (added xs zs) u zero_ratio ≡ sum (get_or xs u zero_ratio) (get_or zs u zero_ratio)
added-at [] zs u = sym (zero-sum (get_or zs u zero_ratio))
added-at (x ∷ xs) [] u = sym (sum-zero (get_or (x ∷ xs) u zero_ratio))
added-at (x ∷ xs) (z ∷ zs) zero = refl
added-at (x ∷ xs) (z ∷ zs) (suc u) = added-at xs zs u

times-at : (y : Ratio) (xs : List Ratio) (u : ℕ) → get_or (map (product y) xs) u zero_ratio ≡ product y (get_or xs u zero_ratio)
times-at y [] u = sym (product-zero y)
times-at y (x ∷ xs) zero = refl
times-at y (x ∷ xs) (suc u) = times-at y xs u

combined-at : (ys : List Ratio) (rows : List Row) (u : ℕ) → length ys ≡ length rows →
    get_or (combined ys rows) u zero_ratio ≡ sum_to (length rows) (λ i. product (multiplier_at ys i) (entry_at (Unknown u) rows i))
combined-at [] [] u e = refl
combined-at [] (row ∷ rows) u e = absurd (omega arith)
combined-at (y ∷ ys) [] u e = absurd (omega arith)
combined-at (y ∷ ys) (row ∷ rows) u e =
    added-at (map (product y) row.coefficients) (combined ys rows) u
    ∙ ap (λ a. sum a (get_or (combined ys rows) u zero_ratio)) (times-at y row.coefficients u)
    ∙ ap (sum (product y (get_or row.coefficients u zero_ratio))) (combined-at ys rows u (omega arith))
    ∙ sym (sum_to-front (length rows) (λ i. product (multiplier_at (y ∷ ys) i) (entry_at (Unknown u) (row ∷ rows) i)))

length-added : (xs zs : List Ratio) (n : ℕ) → length xs ≤ n → length zs ≤ n → length (added xs zs) ≤ n
length-added [] zs n a b = b
length-added (x ∷ xs) [] n a b = a
length-added (x ∷ xs) (z ∷ zs) zero a b = absurd (omega arith)
length-added (x ∷ xs) (z ∷ zs) (suc n) a b = omega (arith, length-added xs zs n (omega arith) (omega arith))

length-combined : (n : ℕ) (ys : List Ratio) (rows : List Row) → HasWholeRows n rows → length (combined ys rows) ≤ n
length-combined n [] rows h = omega arith
length-combined n (y ∷ ys) [] h = omega arith
length-combined n (y ∷ ys) (row ∷ rows) h =
    let own : length row.coefficients ≡ n = All-head (λ (r : Row). length r.coefficients ≡ n) row rows h in
    length-added (map (product y) row.coefficients) (combined ys rows) n
    (omega (arith, length-map row.coefficients (product y), own))
    (length-combined n ys rows (All-tail (λ (r : Row). length r.coefficients ≡ n) row rows h))

bounds-at : (rows : List Row) (i : ℕ) → get_or (map (λ (row : Row). row.bound) rows) i zero_ratio ≡ entry_at Bounds rows i
bounds-at [] i = refl
bounds-at (row ∷ rows) zero = refl
bounds-at (row ∷ rows) (suc i) = bounds-at rows i

dot-bounds : (ys : List Ratio) (rows : List Row) → length ys ≡ length rows →
    dot ys (map (λ (row : Row). row.bound) rows) ≡ sum_to (length rows) (λ i. product (multiplier_at ys i) (entry_at Bounds rows i))
dot-bounds ys rows long =
    dot-sum_to ys (map (λ (row : Row). row.bound) rows)
    ∙ ap (λ n. sum_to n (λ i. product (get_or ys i zero_ratio) (get_or (map (λ (row : Row). row.bound) rows) i zero_ratio))) long
    ∙ sum_to-same (length rows) (λ i. product (get_or ys i zero_ratio) (get_or (map (λ (row : Row). row.bound) rows) i zero_ratio))
    (λ i. product (multiplier_at ys i) (entry_at Bounds rows i)) (λ i lt. ap (product (multiplier_at ys i)) (bounds-at rows i))

-- ---- signs

not_below : (x : Ratio) → IsNotNegative x → is_below_zero x ≡ false
not_below x h = by_test (is_below_zero x) refl
  where
    by_test : (b : Bool) → is_below_zero x ≡ b → is_below_zero x ≡ false
    by_test true e = let under : IsNegative x = negative_is x e in absurd (omega (arith, ints, h, under))
    by_test false e = e

is_below : (x : Ratio) → IsNegative x → is_below_zero x ≡ true
is_below x h = by_test (is_below_zero x) refl
  where
    by_test : (b : Bool) → is_below_zero x ≡ b → is_below_zero x ≡ true
    by_test true e = e
    by_test false e = let above : IsNotNegative x = not_negative_is x e in absurd (omega (arith, ints, h, above))

-- also past the end
each_at : (xs : List Ratio) → All IsNotNegative xs → (u : ℕ) → IsNotNegative (get_or xs u zero_ratio)
each_at [] h u = zero_not_negative
each_at (x ∷ xs) h zero = All-head IsNotNegative x xs h
each_at (x ∷ xs) h (suc u) = each_at xs (All-tail IsNotNegative x xs h) u

-- ---- what is found of a column

unknown_not_negative : (p : Program) (ys : List Ratio) (u : ℕ) → length ys ≡ length p.rows → unknown_passes p.rows ys u ≡ true →
    IsNotNegative (get_or (combined ys p.rows) u zero_ratio)
unknown_not_negative p ys u long e = by_sum (column_sum (Unknown u) p.rows ys) refl e
  where
    by_sum : (made : Option Ratio) → column_sum (Unknown u) p.rows ys ≡ made → is_formed_not_below made ≡ true → IsNotNegative (get_or (combined ys p.rows) u zero_ratio)
    by_sum None is e = absurd (false≢true e)
    by_sum (Some x) is e =
        subst IsNotNegative
        (added_to-value (length p.rows) (multiplier_at ys) (entry_at (Unknown u) p.rows) x is ∙ sym (combined-at ys p.rows u long))
        (not_negative_is x (not-true (is_below_zero x) e))

bounds_are_negative : (p : Program) (ys : List Ratio) → length ys ≡ length p.rows → is_formed_below (column_sum Bounds p.rows ys) ≡ true →
    IsNegative (dot ys (map (λ (row : Row). row.bound) p.rows))
bounds_are_negative p ys long e = by_sum (column_sum Bounds p.rows ys) refl e
  where
    by_sum : (made : Option Ratio) → column_sum Bounds p.rows ys ≡ made → is_formed_below made ≡ true → IsNegative (dot ys (map (λ (row : Row). row.bound) p.rows))
    by_sum None is e = absurd (false≢true e)
    by_sum (Some x) is e =
        subst IsNegative
        (added_to-value (length p.rows) (multiplier_at ys) (entry_at Bounds p.rows) x is ∙ sym (dot-bounds ys p.rows long))
        (negative_is x e)

unknown_accepted : (p : Program) (ys : List Ratio) (u : ℕ) → length ys ≡ length p.rows → IsSome (column_sum (Unknown u) p.rows ys) →
    IsNotNegative (get_or (combined ys p.rows) u zero_ratio) → unknown_passes p.rows ys u ≡ true
unknown_accepted p ys u long some h = by_sum (column_sum (Unknown u) p.rows ys) refl some
  where
    by_sum : (made : Option Ratio) → column_sum (Unknown u) p.rows ys ≡ made → IsSome made → is_formed_not_below made ≡ true
    by_sum None is some = some
    by_sum (Some x) is some =
        not_from_false (is_below_zero x) (not_below x
        (subst IsNotNegative (combined-at ys p.rows u long ∙ sym (added_to-value (length p.rows) (multiplier_at ys) (entry_at (Unknown u) p.rows) x is)) h))

bounds_accepted : (p : Program) (ys : List Ratio) → length ys ≡ length p.rows → IsSome (column_sum Bounds p.rows ys) →
    IsNegative (dot ys (map (λ (row : Row). row.bound) p.rows)) → is_formed_below (column_sum Bounds p.rows ys) ≡ true
bounds_accepted p ys long some h = by_sum (column_sum Bounds p.rows ys) refl some
  where
    by_sum : (made : Option Ratio) → column_sum Bounds p.rows ys ≡ made → IsSome made → is_formed_below made ≡ true
    by_sum None is some = some
    by_sum (Some x) is some =
        is_below x (subst IsNegative (dot-bounds ys p.rows long ∙ sym (added_to-value (length p.rows) (multiplier_at ys) (entry_at Bounds p.rows) x is)) h)

formed_not_below : (made : Option Ratio) → is_formed_not_below made ≡ true → IsSome made
formed_not_below None e = e
formed_not_below (Some x) e = refl

formed_below : (made : Option Ratio) → is_formed_below made ≡ true → IsSome made
formed_below None e = e
formed_below (Some x) e = refl

-- ---- all of it

record Passes (p : Program) (ys : List Ratio) : Type 0 where
  long : length ys ≡ length p.rows
  each : (i : ℕ) → i < length ys → is_below_zero (multiplier_at ys i) ≡ false
  columns : (u : ℕ) → u < p.unknowns → unknown_passes p.rows ys u ≡ true
  last : is_formed_below (column_sum Bounds p.rows ys) ≡ true

passes : (p : Program) (ys : List Ratio) → excludes p ys ≡ true → Passes p ys
passes p ys e =
    let count = (length ys == length p.rows) in
    let signs = each_below (length ys) (multiplier_passes ys) in
    let columns = each_below p.unknowns (unknown_passes p.rows ys) in
    let a = and_parts (count && signs && columns) (is_formed_below (column_sum Bounds p.rows ys)) e in
    let b = and_parts (count && signs) columns a.0 in
    let c = and_parts count signs b.0 in
    record {
      long = eqb-true (length ys) (length p.rows) c.0;
      each = λ i lt. not-true (is_below_zero (multiplier_at ys i)) (each_below-at (length ys) (multiplier_passes ys) c.1 i lt);
      columns = λ u lt. each_below-at p.unknowns (unknown_passes p.rows ys) b.1 u lt;
      last = a.1;
    }

pub excluded-certificate : (p : Program) (ys : List Ratio) → IsWhole p → excludes p ys ≡ true → IsCertificate p ys
excluded-certificate p ys whole e =
    let h : Passes p ys = passes p ys e in
    let few : length (combined ys p.rows) ≤ p.unknowns = length-combined p.unknowns ys p.rows whole in
    record {
      one_each = h.long;
      not_negative = All-from_get_or IsNotNegative ys zero_ratio (λ i lt. not_negative_is (get_or ys i zero_ratio) (h.each i lt));
      rows_not_negative = All-from_get_or IsNotNegative (combined ys p.rows) zero_ratio
          (λ u lt. unknown_not_negative p ys u h.long (h.columns u (omega (arith, lt, few))));
      bounds_negative = bounds_are_negative p ys h.long h.last;
    }

pub excluded-formed : (p : Program) (ys : List Ratio) → excludes p ys ≡ true → AreFormed p ys
excluded-formed p ys e =
    let h : Passes p ys = passes p ys e in
    record {
      unknowns = λ u lt. formed_not_below (column_sum (Unknown u) p.rows ys) (h.columns u lt);
      bounds = formed_below (column_sum Bounds p.rows ys) h.last;
    }

pub certificate-excludes : (p : Program) (ys : List Ratio) → IsCertificate p ys → AreFormed p ys → excludes p ys ≡ true
certificate-excludes p ys certificate formed =
    let long : length ys ≡ length p.rows = certificate.one_each in
    and_from _ _ (and_from _ _ (and_from _ _
    (eq-eqb (length ys) (length p.rows) long)
    (each_below-from (length ys) (multiplier_passes ys) (λ i lt. not_from_false (is_below_zero (multiplier_at ys i)) (not_below (multiplier_at ys i) (certificate.not_negative i zero_ratio lt)))))
    (each_below-from p.unknowns (unknown_passes p.rows ys) (λ u lt. unknown_accepted p ys u long (formed.unknowns u lt) (each_at (combined ys p.rows) certificate.rows_not_negative u))))
    (bounds_accepted p ys long formed.bounds certificate.bounds_negative)
