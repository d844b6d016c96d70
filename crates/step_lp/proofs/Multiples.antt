-- Least common multiples and denominators.
use Rattle.std.proofs.Common.{◌≡◌, ℕ, zero, suc, ◌+◌, ◌*◌, ◌/◌, ◌<◌, ◌≤◌, ◌⊎◌, inl, inr, Bool, true, false, List, [], ◌∷◌, drop, length, get_or, Some, None, subst, sym, ap, ◌∙◌, refl, arith}
use Rattle.std.specs.Prelude.{All, nat_le, if◌then◌else◌}
use Rattle.std.specs.Int.{◌∣◌}
use Rattle.std.proofs.Math.Nat.{mul-div_cancel', dvd-mul_left, dvd-mul_right, mul_assoc, mul-pos, eq_of_mul-eq-mul_left, dvd-zero}
use Rattle.std.proofs.Math.Seq.{drop-cons}
use Rattle.std.proofs.lemmas.Bool.{cases_lt}
use Rattle.std.proofs.lemmas.Nat.Gcd.{dvd_trans, dvd_refl, le_of_dvd}
use Rattle.rollout_rules.specs.declared.limits.TheConstants.{LARGEST_SCALE}
use Rattle.fraction_lp.specs.Divisors.{gcd, IsGcd-gcd, gcd-pos, gcd-divided, dvd_of_dvd-mul}
use Rattle.fraction_lp.specs.Ratio.{Ratio, bottom-pos}
use Rattle.step_lp.specs.Points.{lcm, common_bottom, within_scale}

-- the two quotients by the greatest common divisor
lcm-other : (a b : ℕ) → lcm a b ≡ a * (b / gcd a b)
lcm-other a b =
    let is = IsGcd-gcd a b in
    ap (λ n. a / gcd a b * n) (sym (mul-div_cancel' (gcd a b) is.1))
    ∙ turned (gcd a b) (a / gcd a b) (b / gcd a b)
    ∙ ap (λ n. n * (b / gcd a b)) (mul-div_cancel' (gcd a b) is.0)
  where
    turned : (g x y : ℕ) → x * (g * y) ≡ g * x * y
    turned g x y = omega arith

pub lcm-left : (a b : ℕ) → a ∣ lcm a b
lcm-left a b = subst (λ (n : ℕ). a ∣ n) (sym (lcm-other a b)) (dvd-mul_right a (b / gcd a b))

pub lcm-right : (a b : ℕ) → b ∣ lcm a b
lcm-right a b = dvd-mul_left b (a / gcd a b)

pos_of_quotient : (g q n : ℕ) → g * q ≡ n → 0 < n → 0 < q
pos_of_quotient g zero n e p = absurd (omega arith)
pos_of_quotient g (suc q) n e p = omega arith

pub lcm-pos : (a b : ℕ) → 0 < a → 0 < b → 0 < lcm a b
lcm-pos a b p q = mul-pos (pos_of_quotient (gcd a b) (a / gcd a b) a (mul-div_cancel' (gcd a b) (IsGcd-gcd a b).0) p) q

pub lcm-least : (a b m : ℕ) → 0 < b → a ∣ m → b ∣ m → lcm a b ∣ m
lcm-least a b m q ha hb = by_size (cases_lt 0 (m / a))
  where
    g : ℕ
    g = gcd a b

    left : g * (a / g) ≡ a
    left = mul-div_cancel' g (IsGcd-gcd a b).0

    right : g * (b / g) ≡ b
    right = mul-div_cancel' g (IsGcd-gcd a b).1

    crossed : (k x y u v m : ℕ) → k * x * u ≡ m → k * y * v ≡ m → k * (y * v) ≡ k * (u * x)
    crossed k x y u v m e f = omega arith

    same : (b / g) * (m / b) ≡ (m / a) * (a / g)
    same =
        eq_of_mul-eq-mul_left g (gcd-pos a b q) ((b / g) * (m / b)) ((m / a) * (a / g))
        (crossed g (a / g) (b / g) (m / a) (m / b) m (ap (λ n. n * (m / a)) left ∙ mul-div_cancel' a ha) (ap (λ n. n * (m / b)) right ∙ mul-div_cancel' b hb))

    by_size : (0 < m / a) ⊎ (m / a ≤ 0) → lcm a b ∣ m
    by_size (inl p) =
        let over : (b / g) ∣ (m / a) = dvd_of_dvd-mul (a / g) (b / g) (m / a) p (gcd-divided a b q) (subst (λ (n : ℕ). (b / g) ∣ n) same (dvd-mul_right (b / g) (m / b))) in
        subst (λ (n : ℕ). lcm a b ∣ n)
        (ap (λ n. n * (m / a / (b / g))) (lcm-other a b) ∙ mul_assoc a (b / g) (m / a / (b / g)) ∙ ap (λ n. a * n) (mul-div_cancel' (b / g) over) ∙ mul-div_cancel' a ha)
        (dvd-mul_right (lcm a b) (m / a / (b / g)))
    by_size (inr p) =
        let none : m / a ≡ 0 = omega arith in
        let zero_is : m ≡ 0 = sym (mul-div_cancel' a ha) ∙ ap (λ n. a * n) none ∙ times_zero a in
        subst (λ (n : ℕ). lcm a b ∣ n) (sym zero_is) (dvd-zero (lcm a b))
      where
        times_zero : (a : ℕ) → a * 0 ≡ 0
        times_zero a = omega arith

-- ---- denominators

pub common_bottom-pos : (n : ℕ) (xs : List Ratio) → 0 < n → 0 < common_bottom n xs
common_bottom-pos n [] p = p
common_bottom-pos n (x ∷ xs) p = common_bottom-pos (lcm n x.bottom) xs (lcm-pos n x.bottom p (bottom-pos x))

pub common_bottom-first : (n : ℕ) (xs : List Ratio) → n ∣ common_bottom n xs
common_bottom-first n [] = dvd_refl n
common_bottom-first n (x ∷ xs) = dvd_trans n (lcm-left n x.bottom) (common_bottom-first (lcm n x.bottom) xs)

pub common_bottom-each : (n : ℕ) (xs : List Ratio) → All (λ x. x.bottom ∣ common_bottom n xs) xs
common_bottom-each n [] k d lt = absurd (omega arith)
common_bottom-each n (x ∷ xs) zero d lt = dvd_trans x.bottom (lcm-right n x.bottom) (common_bottom-first (lcm n x.bottom) xs)
common_bottom-each n (x ∷ xs) (suc k) d lt = common_bottom-each (lcm n x.bottom) xs k d (omega arith)

pub common_bottom-least : (n m : ℕ) (xs : List Ratio) → n ∣ m → All (λ x. x.bottom ∣ m) xs → common_bottom n xs ∣ m
common_bottom-least n m [] h all = h
common_bottom-least n m (x ∷ xs) h all =
    common_bottom-least (lcm n x.bottom) m xs (lcm-least n x.bottom m (bottom-pos x) h (all 0 x (omega arith))) (λ k d lt. all (suc k) d (omega arith))

-- ---- a loop over the fractions that stops above the largest scale

pub common_bottom-up : (n : ℕ) (xs : List Ratio) → 0 < n → n ≤ common_bottom n xs
common_bottom-up n xs p = le_of_dvd (common_bottom-pos n xs p) (common_bottom-first n xs)

pub lcm-up : (a b : ℕ) → 0 < a → 0 < b → b ≤ lcm a b
lcm-up a b p q = le_of_dvd (lcm-pos a b p q) (lcm-right a b)

pub above_scale : (n : ℕ) → LARGEST_SCALE < n → None ≡ within_scale n
above_scale n h = grind arith

pub not_within : (n : ℕ) → None ≡ within_scale n → LARGEST_SCALE < n
not_within n e = by_test (nat_le n LARGEST_SCALE) refl e
  where
    by_test : (b : Bool) → nat_le n LARGEST_SCALE ≡ b → None ≡ (if b then Some n else None) → LARGEST_SCALE < n
    by_test true q e = cc
    by_test false q e = grind arith

pub is_within : (n m : ℕ) → Some m ≡ within_scale n → (m ≡ n) × (n ≤ LARGEST_SCALE)
is_within n m e = by_test (nat_le n LARGEST_SCALE) refl e
  where
    by_test : (b : Bool) → nat_le n LARGEST_SCALE ≡ b → Some m ≡ (if b then Some n else None) → (m ≡ n) × (n ≤ LARGEST_SCALE)
    by_test true q e = (cc, grind arith)
    by_test false q e = cc

pub next_common : (n : ℕ) (xs : List Ratio) (k : ℕ) (d : Ratio) → k < length xs → common_bottom n (drop k xs) ≡ common_bottom (lcm n (get_or xs k d).bottom) (drop (k + 1) xs)
next_common n xs k d lt = let more : k + 1 ≡ suc k = omega arith in rw more (ap (common_bottom n) (drop-cons xs k d lt))

pub stops_above : (c n : ℕ) (xs : List Ratio) (k : ℕ) (x d : Ratio) → x ≡ get_or xs k d → 0 < n → k < length xs → c ≡ common_bottom n (drop k xs) →
    None ≡ within_scale (lcm n x.bottom) → None ≡ within_scale c
stops_above c n xs k x d at p lt e none =
    let most : lcm n x.bottom ≤ common_bottom (lcm n x.bottom) (drop (k + 1) xs) =
    common_bottom-up (lcm n x.bottom) (drop (k + 1) xs) (lcm-pos n x.bottom p (bottom-pos x)) in
    let over : LARGEST_SCALE < lcm n x.bottom = not_within (lcm n x.bottom) none in
    let whole : c ≡ common_bottom (lcm n x.bottom) (drop (k + 1) xs) =
    e ∙ next_common n xs k d lt ∙ ap (λ (y : Ratio). common_bottom (lcm n y.bottom) (drop (k + 1) xs)) (sym at) in
    above_scale c (omega arith)

pub goes_on_below : (c n m : ℕ) (xs : List Ratio) (k : ℕ) (x d : Ratio) → x ≡ get_or xs k d → 0 < n → k < length xs → c ≡ common_bottom n (drop k xs) →
    Some m ≡ within_scale (lcm n x.bottom) → (0 < m) × (m ≤ LARGEST_SCALE) × (c ≡ common_bottom m (drop (k + 1) xs))
goes_on_below c n m xs k x d at p lt e some =
    let is = is_within (lcm n x.bottom) m some in
    let positive : 0 < lcm n x.bottom = lcm-pos n x.bottom p (bottom-pos x) in (
      omega (arith, is.0),
      omega (arith, is.0, is.1),
      e ∙ next_common n xs k d lt ∙ ap (λ (y : Ratio). common_bottom (lcm n y.bottom) (drop (k + 1) xs)) (sym at) ∙ ap (λ j. common_bottom j (drop (k + 1) xs)) (sym is.0),
    )
