-- What a call gives is the exact value.
use Rattle.std.proofs.Common.{◌≡◌, ℕ, zero, suc, ◌+◌, ◌*◌, ◌<◌, ◌≤◌, Bool, true, false, ℤ, pos, negsuc, nat_abs, neg_ℤ, ◌*ℤ◌, ◌+ℤ◌, List, [], ◌∷◌, Option, Some, None, ap, ◌∙◌, sym, subst, refl, arith, eqb}
use Rattle.std.specs.Prelude.{if◌then◌else◌, ◌==◌}
use Rattle.std.specs.Option.{option_and_then}
use Rattle.std.proofs.Math.Nat.{mul-pos}
use Rattle.std.proofs.lemmas.Bool.{eqb-true, eqb-false}
use borrow.Author.Differences.{up, down, neg_is, product_is}
use Rattle.fraction_lp.specs.Ratio.{Ratio, ratio, fits, where_they_fit, bottom-pos, plus, times, over, sum, product, quotient, turned, negated, is_zero, zero_ratio}
use Rattle.fraction_lp.specs.Dictionary.{plus_times}
use Rattle.fraction_lp.proofs.Arithmetic.{Is, is_itself, ratio_means, told_alike, is_product, Told, itself, multiplied, nothing, alike}

first_fits : {A : Type 0} (b : Bool) (x : Option A) (y : A) → (if b then x else None) ≡ Some y → x ≡ Some y
first_fits true x y e = e
first_fits false x y e = cc

pub made : {A : Type 0} (zs : List ℤ) (x y : A) → where_they_fit zs x ≡ Some y → y ≡ x
made [] x y e = cc
made (z ∷ zs) x y e = made zs x y (first_fits (fits z) (where_they_fit zs x) y e)

pub plus_is : (x y z : Ratio) → plus x y ≡ Some z → z ≡ sum x y
plus_is x y z e =
    made ((x.top *ℤ pos y.bottom) ∷ (y.top *ℤ pos x.bottom) ∷ (x.top *ℤ pos y.bottom +ℤ y.top *ℤ pos x.bottom) ∷ pos (x.bottom * y.bottom) ∷ []) (sum x y) z e

pub times_is : (x y z : Ratio) → times x y ≡ Some z → z ≡ product x y
times_is x y z e = made ((x.top *ℤ y.top) ∷ pos (x.bottom * y.bottom) ∷ []) (product x y) z e

then_plus : (x : Ratio) (made : Option Ratio) (z : Ratio) → option_and_then (plus x) made ≡ Some z →
    (y : Ratio) × (made ≡ Some y) × (z ≡ sum x y)
then_plus x None z e = cc
then_plus x (Some y) z e = (y, refl, plus_is x y z e)

pub plus_times_is : (x t y z : Ratio) → plus_times x t y ≡ Some z → z ≡ sum x (product t y)
plus_times_is x t y z e =
    let parts = then_plus x (times t y) z e in parts.2 ∙ ap (sum x) (times_is t y parts.0 parts.1)

-- ---- quotients

not_zero : (b : Bool) (x : Option Ratio) (y : Ratio) → (if b then None else x) ≡ Some y → (b ≡ false) × (x ≡ Some y)
not_zero true x y e = cc
not_zero false x y e = (refl, e)

quotient_alike : (t whole : ℤ) (ux dx xb yb : ℕ) → up whole ≡ ux * yb → down whole ≡ dx * yb →
    (up t * up (turned whole t) + down t * down (turned whole t)) * xb + dx * (yb * (xb * nat_abs t))
    ≡ ux * (yb * (xb * nat_abs t)) + (up t * down (turned whole t) + down t * up (turned whole t)) * xb
quotient_alike (pos c) whole ux dx xb yb p q =
    omega (arith, ap (λ n. c * n * xb) p, ap (λ n. c * n * xb) q)
quotient_alike (negsuc c) whole ux dx xb yb p q =
    let parts = neg_is whole in
    omega (arith, ap (λ n. suc c * n * xb) (parts.0 ∙ q), ap (λ n. suc c * n * xb) (parts.1 ∙ p))

pub product-quotient : (y x : Ratio) → 0 < nat_abs y.top → product y (quotient x y) ≡ x
product-quotient y x p =
    let whole : ℤ = x.top *ℤ pos y.bottom in
    let top : ℤ = turned whole y.top in
    let parts = product_is x.top (pos y.bottom) in
    let means : Is (quotient x y) (up top) (down top) (x.bottom * nat_abs y.top) =
    ratio_means top (x.bottom * nat_abs y.top) (mul-pos (bottom-pos x) p) in
    told_alike (product y (quotient x y)) x
    (up y.top * up top + down y.top * down top) (up y.top * down top + down y.top * up top) (y.bottom * (x.bottom * nat_abs y.top))
    (up x.top) (down x.top) x.bottom
    (is_product y (quotient x y) (up y.top) (down y.top) y.bottom (up top) (down top) (x.bottom * nat_abs y.top) (is_itself y) means)
    (is_itself x)
    (quotient_alike y.top whole (up x.top) (down x.top) x.bottom y.bottom (omega (arith, parts.0)) (omega (arith, parts.1)))

pub over_is : (x y z : Ratio) → over x y ≡ Some z → (0 < nat_abs y.top) × (product y z ≡ x)
over_is x y z e =
    let some = not_zero (nat_abs y.top == 0) _ z e in
    let apart = eqb-false (nat_abs y.top) 0 some.0 in
    let positive : 0 < nat_abs y.top = omega arith in
    (positive, ap (product y) (made ((x.top *ℤ pos y.bottom) ∷ pos (x.bottom * nat_abs y.top) ∷ []) (quotient x y) z some.1) ∙ product-quotient y x positive)

-- a product with 0 is 0
pub zero_product : (x y : Ratio) → is_zero x ≡ true → product x y ≡ zero_ratio
zero_product x y e =
    let none : nat_abs x.top ≡ 0 = eqb-true (nat_abs x.top) 0 e in
    let parts = no_parts x.top none in
    alike (multiplied (itself x) (itself y)) nothing
    (zero_alike (up x.top) (down x.top) (up y.top) (down y.top) (x.bottom * y.bottom) parts.0 parts.1)
  where
    no_parts : (t : ℤ) → nat_abs t ≡ 0 → (up t ≡ 0) × (down t ≡ 0)
    no_parts (pos n) e = (e, refl)
    no_parts (negsuc n) e = absurd (omega arith)

    zero_alike : (ux dx uy dy b : ℕ) → ux ≡ 0 → dx ≡ 0 → (ux * uy + dx * dy) * 1 + 0 * b ≡ 0 * b + (ux * dy + dx * uy) * 1
    zero_alike ux dx uy dy b p q = omega (arith, ap (λ n. n * uy) p, ap (λ n. n * dy) p, ap (λ n. n * uy) q, ap (λ n. n * dy) q)
