-- Which fractions are not negative, by how they are told.
use Rattle.std.proofs.Common.{◌≡◌, ℕ, zero, suc, ◌+◌, ◌-◌, ◌*◌, ◌<◌, ◌≤◌, Bool, true, false, ℤ, pos, negsuc, neg_ℤ, ◌*ℤ◌, ◌≤ℤ◌, ◌<ℤ◌, List, [], ◌∷◌, ap, ◌∙◌, sym, subst, refl, arith, inl, inr, ◌⊎◌}
use Rattle.std.specs.Prelude.{int_lt}
use Rattle.std.proofs.Math.Nat.{mul-le-mul_left, mul-le-mul_right, mul-lt-mul_of_pos_right, mul-pos, mul-le-mul}
use Rattle.std.proofs.lemmas.Bool.{cases_lt}
use Rattle.std.proofs.lemmas.Int.{ints}
use borrow.Author.Differences.{up, down, product_is, at_most_in, le_out}
use Rattle.fraction_lp.specs.Ratio.{Ratio, bottom-pos, sum, product, negated, zero_ratio, one_ratio, is_below_zero, is_above_zero}
use Rattle.fraction_lp.specs.Program.{IsNotNegative, IsNegative, IsAtMost, dot}
use Rattle.fraction_lp.proofs.Arithmetic.{Is, Told, itself, summed, multiplied, turned_round, alike}

-- a fraction that is not negative has no part below
pub not_below_parts : (x : Ratio) → IsNotNegative x → down x.top ≤ up x.top
not_below_parts x h = omega (arith, le_out (pos 0) x.top h)

pub parts_not_below : (x : Ratio) → down x.top ≤ up x.top → IsNotNegative x
parts_not_below x h = at_most_in (pos 0) x.top (omega arith)

-- d ≤ u where the fraction (u - d) / b is not negative, and the other way round
pub told_up : {x : Ratio} (s : Told x) → IsNotNegative x → s.d ≤ s.u
told_up {x} s h = above (up x.top) (down x.top) x.bottom s.u s.d s.b (bottom-pos x) s.is.same (not_below_parts x h)
  where
    above : (ux dx xb u d b : ℕ) → 0 < xb → ux * b + d * xb ≡ u * xb + dx * b → dx ≤ ux → d ≤ u
    above ux dx xb u d b p e h = by_order (cases_lt u d)
      where
        by_order : (u < d) ⊎ (d ≤ u) → d ≤ u
        by_order (inl q) = absurd (omega (arith, mul-lt-mul_of_pos_right q p, mul-le-mul_right b h))
        by_order (inr q) = q

pub up_told : {x : Ratio} (s : Told x) → s.d ≤ s.u → IsNotNegative x
up_told {x} s h = parts_not_below x (above (up x.top) (down x.top) x.bottom s.u s.d s.b s.is.positive s.is.same h)
  where
    above : (ux dx xb u d b : ℕ) → 0 < b → ux * b + d * xb ≡ u * xb + dx * b → d ≤ u → dx ≤ ux
    above ux dx xb u d b p e h = by_order (cases_lt ux dx)
      where
        by_order : (ux < dx) ⊎ (dx ≤ ux) → dx ≤ ux
        by_order (inl q) = absurd (omega (arith, mul-lt-mul_of_pos_right q p, mul-le-mul_right xb h))
        by_order (inr q) = q

pub sum_not_negative : (x y : Ratio) → IsNotNegative x → IsNotNegative y → IsNotNegative (sum x y)
sum_not_negative x y h k =
    up_told (summed (itself x) (itself y))
    (omega (arith, mul-le-mul_right y.bottom (not_below_parts x h), mul-le-mul_right x.bottom (not_below_parts y k)))

pub product_not_negative : (x y : Ratio) → IsNotNegative x → IsNotNegative y → IsNotNegative (product x y)
product_not_negative x y h k =
    up_told (multiplied (itself x) (itself y))
    (crossed (up x.top) (down x.top) (up y.top) (down y.top) (not_below_parts x h) (not_below_parts y k))
  where
    crossed : (a b c d : ℕ) → b ≤ a → d ≤ c → a * d + b * c ≤ a * c + b * d
    crossed a b c d p q =
        let more : a ≡ b + (a - b) = omega arith in
        let rest : (a - b) * d ≤ (a - b) * c = mul-le-mul_left (a - b) q in
        subst (λ (n : ℕ). n * d + b * c ≤ n * c + b * d) (sym more) (omega arith)

-- what is left of a bound is not negative: the number is at most the bound
pub at_most_from_slack : (x y : Ratio) → IsNotNegative (sum y (negated x)) → IsAtMost x y
at_most_from_slack x y h =
    at_most_in (x.top *ℤ pos y.bottom) (y.top *ℤ pos x.bottom)
    (omega (arith, told_up (summed (itself y) (turned_round (itself x))) h, product_is x.top (pos y.bottom), product_is y.top (pos x.bottom)))

pub slack_from_at_most : (x y : Ratio) → IsAtMost x y → IsNotNegative (sum y (negated x))
slack_from_at_most x y h =
    up_told (summed (itself y) (turned_round (itself x)))
    (omega (arith, le_out (x.top *ℤ pos y.bottom) (y.top *ℤ pos x.bottom) h, product_is x.top (pos y.bottom), product_is y.top (pos x.bottom)))

pub negative_is : (x : Ratio) → is_below_zero x ≡ true → IsNegative x
negative_is x e = below_zero x.top e
  where
    below_zero : (z : ℤ) → int_lt z (pos 0) ≡ true → z <ℤ pos 0
    below_zero z e = omega (arith, ints)

not_below_zero : (z : ℤ) → int_lt z (pos 0) ≡ false → pos 0 ≤ℤ z
not_below_zero z e = omega (arith, ints)

pub not_negative_is : (x : Ratio) → is_below_zero x ≡ false → IsNotNegative x
not_negative_is x e = not_below_zero x.top e

not_above_zero : (z : ℤ) → int_lt (pos 0) z ≡ false → pos 0 ≤ℤ neg_ℤ z
not_above_zero z e = omega (arith, ints)

pub negated_not_negative : (x : Ratio) → is_above_zero x ≡ false → IsNotNegative (negated x)
negated_not_negative x e = not_above_zero x.top e

pub zero_not_negative : IsNotNegative zero_ratio
zero_not_negative = not_negative_is zero_ratio refl

pub one_not_negative : IsNotNegative one_ratio
one_not_negative = not_negative_is one_ratio refl
