-- Rational numbers as reduced fractions, so that equal numbers are the same fraction, and their exact arithmetic.
use Rattle.std.specs.Prelude.{◌≡◌, ℕ, zero, suc, ◌+◌, ◌-◌, ◌*◌, ◌/◌, ◌^◌, ◌<◌, ◌≤◌, Bool, true, false, ◌&&◌, ◌==◌, nat_lt, T, ℤ, pos, negsuc, ◌+ℤ◌, ◌-ℤ◌, ◌*ℤ◌, neg_ℤ, nat_abs, int_div, int_lt, ◌≤ℤ◌, List, [], ◌∷◌, Option, Some, None, if◌then◌else◌}
use Rattle.std.specs.Coded.{Coded, code_by, coded×, coded_ℕ, coded_ℤ}
use Rattle.std.specs.declared.cmp.Ordering.{Ordering}
use Rattle.std.specs.Ordering.{int_cmp}
use Rattle.std.proofs.Common.{sym, ◌∙◌, ap, subst, refl, arith}
use Rattle.std.proofs.Math.Facts.{yes_ltb, ltb_yes, yes_eqb, eqb_yes}
use Rattle.std.proofs.Math.Nat.{div-one, div-eq-sub-div, lt_irrefl}
use Rattle.fraction_lp.specs.Divisors.{gcd, gcd-divided, gcd-pos, gcd-le}

-- whether a fraction has a positive bottom and no common divisor
abbrev pub is_reduced : ℤ → ℕ → Bool
is_reduced top bottom = nat_lt 0 bottom && (gcd (nat_abs top) bottom == 1)

-- a whole number over a positive one, reduced
pub record Ratio : Type 0 where
  pub top : ℤ
  pub bottom : ℕ
  pub reduced : T (is_reduced top bottom)

pub both : (a b : Bool) → T a → T b → T (a && b)
both true b p q = q
both false b p q = p

pub first_of_both : (a b : Bool) → T (a && b) → T a
first_of_both true b p = tt
first_of_both false b p = p

pub second_of_both : (a b : Bool) → T (a && b) → T b
second_of_both true b p = p
second_of_both false b p = absurd p

T-same : (b : Bool) (p q : T b) → p ≡ q
T-same true p q = refl
T-same false p q = absurd p

nat_abs-neg : (n : ℕ) → nat_abs (neg_ℤ (pos n)) ≡ n
nat_abs-neg zero = refl
nat_abs-neg (suc n) = refl

nat_abs-divided : (t : ℤ) (g : ℕ) → nat_abs (int_div t (pos g)) ≡ nat_abs t / g
nat_abs-divided (pos a) g = refl
nat_abs-divided (negsuc a) g = nat_abs-neg (suc a / g)

pub reduced_facts : (t : ℤ) (b : ℕ) → T (is_reduced t b) → (0 < b) × (gcd (nat_abs t) b ≡ 1)
reduced_facts t b r =
    (ltb_yes (first_of_both (nat_lt 0 b) (gcd (nat_abs t) b == 1) r), eqb_yes (second_of_both (nat_lt 0 b) (gcd (nat_abs t) b == 1) r))

pub reduced_from : (t : ℤ) (b : ℕ) → 0 < b → gcd (nat_abs t) b ≡ 1 → T (is_reduced t b)
reduced_from t b p e = both (nat_lt 0 b) (gcd (nat_abs t) b == 1) (yes_ltb p) (yes_eqb e)

quotient_positive : (b g : ℕ) → 0 < g → g ≤ b → 0 < b / g
quotient_positive b g p h = let step : b / g ≡ (b - g) / g + 1 = div-eq-sub-div p h in omega arith

pub reduced_once_divided : (t : ℤ) (n : ℕ) → T (is_reduced (int_div t (pos (gcd (nat_abs t) (suc n)))) (suc n / gcd (nat_abs t) (suc n)))
reduced_once_divided t n =
    let g : ℕ = gcd (nat_abs t) (suc n) in
    let some : 0 < suc n = omega arith in
    reduced_from (int_div t (pos g)) (suc n / g)
    (quotient_positive (suc n) g (gcd-pos (nat_abs t) (suc n) some) (gcd-le (nat_abs t) (suc n) some))
    (ap (λ m. gcd m (suc n / g)) (nat_abs-divided t g) ∙ gcd-divided (nat_abs t) (suc n) some)

-- a fraction reduced; over 0 it is 0
abbrev pub ratio : ℤ → ℕ → Ratio
ratio t zero = record { top = pos 0; bottom = 1; reduced = tt }
ratio t (suc n) = record {
  top = int_div t (pos (gcd (nat_abs t) (suc n)));
  bottom = suc n / gcd (nat_abs t) (suc n);
  reduced = reduced_once_divided t n;
}

-- ---- equal fractions are the same

pub same_ratio : (x y : Ratio) → x.top ≡ y.top → x.bottom ≡ y.bottom → x ≡ y
same_ratio x y p q =
    let Same : (t : ℤ) (b : ℕ) → Type 0 =
    λ t b. (r : T (is_reduced t b)) → x ≡ record { top = t; bottom = b; reduced = r } in
    let here : Same x.top x.bottom =
    λ r. ap (λ (s : T (is_reduced x.top x.bottom)). let made : Ratio = record { top = x.top; bottom = x.bottom; reduced = s } in made)
    (T-same (is_reduced x.top x.bottom) x.reduced r) in
    subst (Same y.top) q (subst (λ (t : ℤ). Same t x.bottom) p here) y.reduced

pub bottom-pos : (x : Ratio) → 0 < x.bottom
bottom-pos x = (reduced_facts x.top x.bottom x.reduced).0

int_div-one : (t : ℤ) → int_div t (pos 1) ≡ t
int_div-one (pos a) = ap pos (div-one a)
int_div-one (negsuc a) = ap (λ n. neg_ℤ (pos n)) (div-one (suc a))

-- a fraction that is reduced stays
kept_parts : (t : ℤ) (b : ℕ) → T (is_reduced t b) → ((ratio t b).top ≡ t) × ((ratio t b).bottom ≡ b)
kept_parts t zero r = absurd (lt_irrefl 0 (reduced_facts t zero r).0)
kept_parts t (suc n) r =
    let one : gcd (nat_abs t) (suc n) ≡ 1 = (reduced_facts t (suc n) r).1 in
    (ap (λ g. int_div t (pos g)) one ∙ int_div-one t, ap (λ g. suc n / g) one ∙ div-one (suc n))

pub ratio-parts : (x : Ratio) → ratio x.top x.bottom ≡ x
ratio-parts x =
    same_ratio (ratio x.top x.bottom) x (kept_parts x.top x.bottom x.reduced).0 (kept_parts x.top x.bottom x.reduced).1

abbrev pub ratio_code : Coded Ratio
ratio_code = code_by (ℤ × ℕ) (coded× coded_ℤ coded_ℕ) (λ x. (x.top, x.bottom)) (λ p. ratio p.0 p.1) ratio-parts

pub ratio_is : (t : ℤ) (b : ℕ) → 0 < b → ((ratio t b).top ≡ int_div t (pos (gcd (nat_abs t) b))) × ((ratio t b).bottom ≡ b / gcd (nat_abs t) b)
ratio_is t zero p = absurd (lt_irrefl 0 p)
ratio_is t (suc n) p = (refl, refl)

-- with no common divisor it stays as it is
pub ratio_of_coprime : (t : ℤ) (b : ℕ) → 0 < b → gcd (nat_abs t) b ≡ 1 → ((ratio t b).top ≡ t) × ((ratio t b).bottom ≡ b)
ratio_of_coprime t b p e = kept_parts t b (reduced_from t b p e)

-- ---- exact arithmetic

abbrev pub zero_ratio : Ratio
zero_ratio = ratio (pos 0) 1

abbrev pub one_ratio : Ratio
one_ratio = ratio (pos 1) 1

abbrev pub sum : Ratio → Ratio → Ratio
sum x y = ratio (x.top *ℤ pos y.bottom +ℤ y.top *ℤ pos x.bottom) (x.bottom * y.bottom)

abbrev pub difference : Ratio → Ratio → Ratio
difference x y = ratio (x.top *ℤ pos y.bottom -ℤ y.top *ℤ pos x.bottom) (x.bottom * y.bottom)

abbrev pub product : Ratio → Ratio → Ratio
product x y = ratio (x.top *ℤ y.top) (x.bottom * y.bottom)

-- the first number, its sign changed where the second is negative
abbrev pub turned : ℤ → ℤ → ℤ
turned t (pos c) = t
turned t (negsuc c) = neg_ℤ t

-- the sign of the divisor goes to the top; over 0 it is 0
abbrev pub quotient : Ratio → Ratio → Ratio
quotient x y = ratio (turned (x.top *ℤ pos y.bottom) y.top) (x.bottom * nat_abs y.top)

nat_abs-neg_ℤ : (z : ℤ) → nat_abs (neg_ℤ z) ≡ nat_abs z
nat_abs-neg_ℤ (pos n) = nat_abs-neg n
nat_abs-neg_ℤ (negsuc n) = refl

pub reduced_negated : (x : Ratio) → T (is_reduced (neg_ℤ x.top) x.bottom)
reduced_negated x =
    let facts = reduced_facts x.top x.bottom x.reduced in
    reduced_from (neg_ℤ x.top) x.bottom facts.0 (ap (λ n. gcd n x.bottom) (nat_abs-neg_ℤ x.top) ∙ facts.1)

abbrev pub negated : Ratio → Ratio
negated x = record { top = neg_ℤ x.top; bottom = x.bottom; reduced = reduced_negated x }

abbrev pub is_zero : Ratio → Bool
is_zero x = nat_abs x.top == 0

abbrev pub is_below_zero : Ratio → Bool
is_below_zero x = int_lt x.top (pos 0)

abbrev pub is_above_zero : Ratio → Bool
is_above_zero x = int_lt (pos 0) x.top

-- ---- the calls: the exact value where each number that is formed fits

-- whether the absolute value is at most 2^127 - 1
abbrev pub fits : ℤ → Bool
fits z = nat_lt (nat_abs z) (2 ^ 127)

abbrev pub where_they_fit : {A : Type 0} → List ℤ → A → Option A
where_they_fit [] value = Some value
where_they_fit (z ∷ zs) value = if fits z then where_they_fit zs value else None

abbrev pub plus : Ratio → Ratio → Option Ratio
plus x y =
    let left : ℤ = x.top *ℤ pos y.bottom in
    let right : ℤ = y.top *ℤ pos x.bottom in
    where_they_fit (left ∷ right ∷ (left +ℤ right) ∷ pos (x.bottom * y.bottom) ∷ []) (sum x y)

abbrev pub minus : Ratio → Ratio → Option Ratio
minus x y =
    let left : ℤ = x.top *ℤ pos y.bottom in
    let right : ℤ = y.top *ℤ pos x.bottom in
    where_they_fit (left ∷ right ∷ (left -ℤ right) ∷ pos (x.bottom * y.bottom) ∷ []) (difference x y)

abbrev pub times : Ratio → Ratio → Option Ratio
times x y = where_they_fit ((x.top *ℤ y.top) ∷ pos (x.bottom * y.bottom) ∷ []) (product x y)

-- nothing over 0
abbrev pub over : Ratio → Ratio → Option Ratio
over x y =
    if nat_abs y.top == 0
    then None
    else where_they_fit ((x.top *ℤ pos y.bottom) ∷ pos (x.bottom * nat_abs y.top) ∷ []) (quotient x y)

abbrev pub order : Ratio → Ratio → Option Ordering
order x y =
    let left : ℤ = x.top *ℤ pos y.bottom in
    let right : ℤ = y.top *ℤ pos x.bottom in
    where_they_fit (left ∷ right ∷ []) (int_cmp left right)

abbrev pub new_ratio : ℤ → ℤ → Option Ratio
new_ratio top (pos zero) = None
new_ratio top (pos (suc n)) = where_they_fit (top ∷ []) (ratio top (suc n))
new_ratio top (negsuc n) = None
