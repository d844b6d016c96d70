use Rattle.std.proofs.Common.{◌≡◌, ℕ, ◌/◌, ◌^◌, ◌<◌, ◌≤◌, ℤ, pos, nat_abs, ◌<ℤ◌, FitsSigned, to_z, of_z, T, arith, subst, sym, ◌∙◌, ap}
use Rattle.std.specs.Int.{w128}
use Rattle.std.specs.Prelude.{int_div}
use Rattle.std.proofs.lemmas.Int.{ints, quot_is, quot_fits, to_z-of_z, to_z_pos}
use Rattle.fraction_lp.specs.Divisors.{gcd, gcd-pos, gcd-le}
use Rattle.fraction_lp.specs.Ratio.{Ratio, ratio, is_reduced, same_ratio, ratio_is, ratio_of_coprime}
use Rattle.fraction_lp.proofs.fraction.reduce.Goals as goal

-- what the code's divisions by a divisor give
record Division (t : ℤ) (b g : ℕ) : Type 0 where
  positive : 0 < g
  fits : FitsSigned w128 (pos g)
  divides : FitsSigned w128 (int_div (to_z w128 (of_z w128 t)) (to_z w128 g))
  top : to_z w128 (of_z w128 (int_div (to_z w128 (of_z w128 t)) (to_z w128 g))) ≡ (ratio t b).top
  bottom : b / g ≡ (ratio t b).bottom

division : (t : ℤ) (b m g : ℕ) → FitsSigned w128 t → 0 < b → b < 2 ^ 127 → m ≡ nat_abs (to_z w128 (of_z w128 t)) → g ≡ gcd m b →
    Division t b g
division t b m g f p small e h =
    let same : g ≡ gcd (nat_abs t) b = h ∙ ap (λ n. gcd n b) (e ∙ ap nat_abs (to_z-of_z w128 t f)) in
    let positive : 0 < g = subst (λ (n : ℕ). 0 < n) (sym same) (gcd-pos (nat_abs t) b p) in
    let least : g ≤ b = subst (λ (n : ℕ). n ≤ b) (sym same) (gcd-le (nat_abs t) b p) in
    let below : g < 2 ^ 127 = omega arith in
    let fits : FitsSigned w128 (pos g) = omega (arith, ints) in
    let above : pos 0 <ℤ pos g = omega (arith, ints) in
    let quotient : FitsSigned w128 (int_div t (pos g)) = quot_fits w128 t (pos g) f above in
    let plain : int_div (to_z w128 (of_z w128 t)) (to_z w128 g) ≡ int_div t (pos g) =
    ap (λ z. int_div z (to_z w128 g)) (to_z-of_z w128 t f) ∙ ap (int_div t) (to_z_pos w128 g below) in
    record {
      positive = positive;
      fits = fits;
      divides = subst (FitsSigned w128) (sym plain) quotient;
      top = quot_is w128 t (pos g) f fits quotient ∙ ap (λ n. int_div t (pos n)) same ∙ sym (ratio_is t b p).0;
      bottom = ap (λ n. b / n) same ∙ sym (ratio_is t b p).1;
    }

is_reduced-same : (x : Ratio) (t : ℤ) (b : ℕ) → t ≡ x.top → b ≡ x.bottom → T (is_reduced t b)
is_reduced-same x t b p q =
    subst (λ (n : ℕ). T (is_reduced t n)) (sym q) (subst (λ (z : ℤ). T (is_reduced z x.bottom)) (sym p) x.reduced)

-- a top that came from its bits, over a bottom with no common divisor
kept_as_it_is : (t : ℤ) (b m g : ℕ) → FitsSigned w128 t → 0 < b → m ≡ nat_abs (to_z w128 (of_z w128 t)) → g ≡ gcd m b → g ≡ 1 →
    (to_z w128 (of_z w128 t) ≡ (ratio t b).top) × (b ≡ (ratio t b).bottom)
kept_as_it_is t b m g f p e h one =
    let coprime : gcd (nat_abs t) b ≡ 1 = ap (λ n. gcd n b) (sym (e ∙ ap nat_abs (to_z-of_z w128 t f))) ∙ sym h ∙ one in
    let parts = ratio_of_coprime t b p coprime in
    (to_z-of_z w128 t f ∙ sym parts.0, sym parts.1)

pub invariant_of-result : goal.invariant_of-result
invariant_of-result c =
    let k = kept_as_it_is c.args.top c.args.bottom c.unsigned_abs.result c.greatest_common_divisor-divisor.result c.ranges.top
    c.requires.positive c.unsigned_abs.ensures.value c.greatest_common_divisor-divisor.ensures (omega arith) in
    (is_reduced-same (ratio c.args.top c.args.bottom) _ _ k.0 k.1, tt)

pub returns-then-divisor-eq1 : goal.returns-then-divisor-eq1
returns-then-divisor-eq1 c =
    let k = kept_as_it_is c.args.top c.args.bottom c.unsigned_abs.result c.greatest_common_divisor-divisor.result c.ranges.top
    c.requires.positive c.unsigned_abs.ensures.value c.greatest_common_divisor-divisor.ensures (omega arith) in
    same_ratio _ (ratio c.args.top c.args.bottom) k.0 k.1

pub overflow_cast-result : goal.overflow_cast-result
overflow_cast-result c =
    (division c.args.top c.args.bottom c.unsigned_abs.result c.greatest_common_divisor-divisor.result c.ranges.top
    c.requires.positive c.requires.bottom c.unsigned_abs.ensures.value c.greatest_common_divisor-divisor.ensures).fits

pub nonzero_div-result : goal.nonzero_div-result
nonzero_div-result c =
    let d = division c.args.top c.args.bottom c.unsigned_abs.result c.greatest_common_divisor-divisor.result c.ranges.top
    c.requires.positive c.requires.bottom c.unsigned_abs.ensures.value c.greatest_common_divisor-divisor.ensures in
    (d.positive, d.divides)

pub nonzero_div-result-2 : goal.nonzero_div-result-2
nonzero_div-result-2 c =
    (division c.args.top c.args.bottom c.unsigned_abs.result c.greatest_common_divisor-divisor.result c.ranges.top
    c.requires.positive c.requires.bottom c.unsigned_abs.ensures.value c.greatest_common_divisor-divisor.ensures).positive

pub invariant_of-result-2 : goal.invariant_of-result-2
invariant_of-result-2 c =
    let d = division c.args.top c.args.bottom c.unsigned_abs.result c.greatest_common_divisor-divisor.result c.ranges.top
    c.requires.positive c.requires.bottom c.unsigned_abs.ensures.value c.greatest_common_divisor-divisor.ensures in
    (is_reduced-same (ratio c.args.top c.args.bottom) _ _ d.top d.bottom, tt)

pub returns : goal.returns
returns c =
    let d = division c.args.top c.args.bottom c.unsigned_abs.result c.greatest_common_divisor-divisor.result c.ranges.top
    c.requires.positive c.requires.bottom c.unsigned_abs.ensures.value c.greatest_common_divisor-divisor.ensures in
    same_ratio _ (ratio c.args.top c.args.bottom) d.top d.bottom
