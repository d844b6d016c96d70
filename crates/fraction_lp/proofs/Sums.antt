-- Sums of fractions: over the numbers below a bound, and of the products of two lists.
use Rattle.std.proofs.Common.{◌≡◌, ◌≢◌, ℕ, zero, suc, ◌+◌, ◌<◌, ◌≤◌, Bool, true, false, List, [], ◌∷◌, ◌++◌, length, map, get_or, ap, ◌∙◌, sym, subst, refl, arith, add-one, add-zero, zero-add}
use Rattle.std.specs.Prelude.{if◌then◌else◌, ◌==◌}
use Rattle.std.proofs.lemmas.Bool.{eqb-true, eqb-false, eq-eqb}
use Rattle.fraction_lp.specs.Dictionary.{Row}
use Rattle.fraction_lp.specs.Ratio.{Ratio, sum, product, negated, zero_ratio, one_ratio}
use Rattle.fraction_lp.specs.Program.{dot, added, combined}
use Rattle.fraction_lp.proofs.Arithmetic.{Told, itself, summed, multiplied, turned_round, nothing, unit, alike, sum_assoc, sum_comm, sum-zero, product-sum, product_assoc, product_comm, product-zero, product-one}

-- f 0 + .. + f (n - 1)
abbrev pub sum_to : ℕ → (ℕ → Ratio) → Ratio
sum_to zero f = zero_ratio
sum_to (suc n) f = sum (sum_to n f) (f n)

pub zero-sum : (x : Ratio) → sum zero_ratio x ≡ x
zero-sum x = alike (summed nothing (itself x)) (itself x) (omega arith)

pub zero-product : (x : Ratio) → product zero_ratio x ≡ zero_ratio
zero-product x = alike (multiplied nothing (itself x)) nothing (omega arith)

pub sum_to-same : (n : ℕ) (f g : ℕ → Ratio) → ((k : ℕ) → k < n → f k ≡ g k) → sum_to n f ≡ sum_to n g
sum_to-same zero f g h = refl
sum_to-same (suc n) f g h =
    ap (λ x. sum x (f n)) (sum_to-same n f g (λ k p. h k (omega arith))) ∙ ap (sum (sum_to n g)) (h n (omega arith))

exchanged : (a b c d : Ratio) → sum (sum a b) (sum c d) ≡ sum (sum a c) (sum b d)
exchanged a b c d =
    alike (summed (summed (itself a) (itself b)) (summed (itself c) (itself d))) (summed (summed (itself a) (itself c)) (summed (itself b) (itself d))) (omega arith)

pub sum_to-sum : (n : ℕ) (f g : ℕ → Ratio) → sum_to n (λ k. sum (f k) (g k)) ≡ sum (sum_to n f) (sum_to n g)
sum_to-sum zero f g = sym (zero-sum zero_ratio)
sum_to-sum (suc n) f g = ap (λ x. sum x (sum (f n) (g n))) (sum_to-sum n f g) ∙ exchanged (sum_to n f) (sum_to n g) (f n) (g n)

pub sum_to-zero : (n : ℕ) (f : ℕ → Ratio) → ((k : ℕ) → k < n → f k ≡ zero_ratio) → sum_to n f ≡ zero_ratio
sum_to-zero zero f h = refl
sum_to-zero (suc n) f h =
    ap (λ x. sum x (f n)) (sum_to-zero n f (λ k p. h k (omega arith))) ∙ zero-sum (f n) ∙ h n (omega arith)

-- the sum of what is 0 but at one number
pub sum_to-one : (n j : ℕ) (f : ℕ → Ratio) → j < n → ((k : ℕ) → k ≢ j → f k ≡ zero_ratio) → sum_to n f ≡ f j
sum_to-one zero j f p h = absurd (omega arith)
sum_to-one (suc n) j f p h = by_test (j == n) refl (λ q. sum_to-one n j f q h)
  where
    by_test : (b : Bool) → (j == n) ≡ b → (j < n → sum_to n f ≡ f j) → sum (sum_to n f) (f n) ≡ f j
    by_test true e below =
        let same : j ≡ n = eqb-true j n e in
        ap (λ x. sum x (f n)) (sum_to-zero n f (λ k q. h k (λ (r : k ≡ j). omega arith))) ∙ zero-sum (f n) ∙ ap f (sym same)
    by_test false e below =
        let other : j ≢ n = eqb-false j n e in
        ap (λ x. sum x (f n)) (below (omega arith)) ∙ ap (sum (f j)) (h n (λ (r : n ≡ j). other (sym r))) ∙ sum-zero (f j)

pub sum_to-split : (n m : ℕ) (f : ℕ → Ratio) → sum_to (n + m) f ≡ sum (sum_to n f) (sum_to m (λ i. f (n + i)))
sum_to-split n zero f = ap (λ k. sum_to k f) (add-zero n) ∙ sym (sum-zero (sum_to n f))
sum_to-split n (suc m) f =
    let here : n + suc m ≡ suc (n + m) = omega arith in
    ap (λ k. sum_to k f) here ∙ ap (λ x. sum x (f (n + m))) (sum_to-split n m f)
    ∙ sum_assoc (sum_to n f) (sum_to m (λ i. f (n + i))) (f (n + m))

pub sum_to-front : (n : ℕ) (f : ℕ → Ratio) → sum_to (suc n) f ≡ sum (f 0) (sum_to n (λ i. f (suc i)))
sum_to-front zero f = sum_comm zero_ratio (f 0)
sum_to-front (suc n) f =
    ap (λ x. sum x (f (suc n))) (sum_to-front n f) ∙ sum_assoc (f 0) (sum_to n (λ i. f (suc i))) (f (suc n))

-- ---- products of two lists

pub dot-none : (xs : List Ratio) → dot xs [] ≡ zero_ratio
dot-none [] = refl
dot-none (x ∷ xs) = refl

pub dot-sum_to : (xs ys : List Ratio) → dot xs ys ≡ sum_to (length xs) (λ i. product (get_or xs i zero_ratio) (get_or ys i zero_ratio))
dot-sum_to [] ys = refl
dot-sum_to (x ∷ xs) [] = sym (sum_to-zero (length (x ∷ xs)) (λ i. product (get_or (x ∷ xs) i zero_ratio) zero_ratio) (λ k p. product-zero (get_or (x ∷ xs) k zero_ratio)))
dot-sum_to (x ∷ xs) (y ∷ ys) =
    ap (sum (product x y)) (dot-sum_to xs ys)
    ∙ sym (sum_to-front (length xs) (λ i. product (get_or (x ∷ xs) i zero_ratio) (get_or (y ∷ ys) i zero_ratio)))

spread : (x u a y : Ratio) → sum (product (sum x u) y) a ≡ sum (product x y) (sum (product u y) a)
spread x u a y =
    alike (summed (multiplied (summed (itself x) (itself u)) (itself y)) (itself a))
    (summed (multiplied (itself x) (itself y)) (summed (multiplied (itself u) (itself y)) (itself a))) (omega arith)

pub dot-added : (xs us ys : List Ratio) → dot (added xs us) ys ≡ sum (dot xs ys) (dot us ys)
dot-added [] us ys = sym (zero-sum (dot us ys))
dot-added (x ∷ xs) [] ys = sym (sum-zero (dot (x ∷ xs) ys))
dot-added (x ∷ xs) (u ∷ us) [] = sym (zero-sum zero_ratio)
dot-added (x ∷ xs) (u ∷ us) (y ∷ ys) =
    ap (sum (product (sum x u) y)) (dot-added xs us ys)
    ∙ regrouped x u y (dot xs ys) (dot us ys)
  where
    regrouped : (x u y a b : Ratio) → sum (product (sum x u) y) (sum a b) ≡ sum (sum (product x y) a) (sum (product u y) b)
    regrouped x u y a b =
        alike (summed (multiplied (summed (itself x) (itself u)) (itself y)) (summed (itself a) (itself b)))
        (summed (summed (multiplied (itself x) (itself y)) (itself a)) (summed (multiplied (itself u) (itself y)) (itself b))) (omega arith)

pub dot-times : (y : Ratio) (xs zs : List Ratio) → dot (map (product y) xs) zs ≡ product y (dot xs zs)
dot-times y [] zs = sym (product-zero y)
dot-times y (x ∷ xs) [] = sym (product-zero y)
dot-times y (x ∷ xs) (z ∷ zs) =
    ap (sum (product (product y x) z)) (dot-times y xs zs)
    ∙ ap (λ a. sum a (product y (dot xs zs))) (product_assoc y x z)
    ∙ sym (product-sum y (product x z) (dot xs zs))

-- a row's slack at a point
abbrev pub slack_at : List Ratio → Row → Ratio
slack_at xs row = sum row.bound (negated (dot row.coefficients xs))

-- the slacks times multipliers: the bounds times them less the rows times them
pub dot-slacks : (xs ys : List Ratio) (rows : List Row) →
    dot ys (map (slack_at xs) rows) ≡ sum (dot ys (map (λ row. row.bound) rows)) (negated (dot (combined ys rows) xs))
dot-slacks xs [] rows = alike nothing (summed nothing (turned_round nothing)) refl
dot-slacks xs (y ∷ ys) [] = alike nothing (summed nothing (turned_round nothing)) refl
dot-slacks xs (y ∷ ys) (row ∷ rows) =
    ap (sum (product y (slack_at xs row))) (dot-slacks xs ys rows)
    ∙ regrouped y row.bound (dot row.coefficients xs) (dot ys (map (λ r. r.bound) rows)) (dot (combined ys rows) xs)
    ∙ ap (λ a. sum (sum (product y row.bound) (dot ys (map (λ r. r.bound) rows))) (negated a))
    (ap (λ a. sum a (dot (combined ys rows) xs)) (sym (dot-times y row.coefficients xs))
    ∙ sym (dot-added (map (product y) row.coefficients) (combined ys rows) xs))
  where
    regrouped : (y b a s t : Ratio) →
        sum (product y (sum b (negated a))) (sum s (negated t)) ≡ sum (sum (product y b) s) (negated (sum (product y a) t))
    regrouped y b a s t =
        alike (summed (multiplied (itself y) (summed (itself b) (turned_round (itself a)))) (summed (itself s) (turned_round (itself t))))
        (summed (summed (multiplied (itself y) (itself b)) (itself s)) (turned_round (summed (multiplied (itself y) (itself a)) (itself t)))) (omega arith)

-- 0 but for 1 at one place
abbrev pub unit_at : ℕ → List Ratio
unit_at zero = one_ratio ∷ []
unit_at (suc j) = zero_ratio ∷ unit_at j

pub dot-unit_at : (xs : List Ratio) (j : ℕ) → dot xs (unit_at j) ≡ get_or xs j zero_ratio
dot-unit_at [] j = refl
dot-unit_at (x ∷ xs) zero = ap (sum (product x one_ratio)) (dot-none xs) ∙ sum-zero (product x one_ratio) ∙ product-one x
dot-unit_at (x ∷ xs) (suc j) = ap (λ a. sum a (dot xs (unit_at j))) (product-zero x) ∙ zero-sum (dot xs (unit_at j)) ∙ dot-unit_at xs j

pub unit_at-same : (j : ℕ) → get_or (unit_at j) j zero_ratio ≡ one_ratio
unit_at-same zero = refl
unit_at-same (suc j) = unit_at-same j

pub unit_at-other : (j k : ℕ) → k ≢ j → get_or (unit_at j) k zero_ratio ≡ zero_ratio
unit_at-other zero zero h = absurd (h refl)
unit_at-other zero (suc k) h = refl
unit_at-other (suc j) zero h = refl
unit_at-other (suc j) (suc k) h = unit_at-other j k (λ e. h (ap suc e))
