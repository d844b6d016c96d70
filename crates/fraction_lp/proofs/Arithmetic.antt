-- Exact arithmetic is that of a field: each fraction is told by a difference of two naturals over a positive one,
-- and two fractions that are told alike are the same.
use Rattle.std.proofs.Common.{◌≡◌, ℕ, zero, suc, ◌+◌, ◌*◌, ◌/◌, ◌<◌, ◌≤◌, ℤ, pos, negsuc, nat_abs, neg_ℤ, ◌+ℤ◌, ◌*ℤ◌, ap, ◌∙◌, sym, subst, refl, arith}
use Rattle.std.specs.Prelude.{int_div}
use Rattle.std.specs.Int.{◌∣◌}
use Rattle.std.proofs.Math.Nat.{mul-div_cancel', mul-pos, eq_of_mul-eq-mul_left, eq_of_mul-eq-mul_right, dvd-zero, zero-div}
use Rattle.std.proofs.lemmas.Int.{unsigned_abs-mul}
use borrow.Author.Differences.{up, down, same_in, same_out, sum_is_lem, product_is, neg_is, quot_is}
use Rattle.fraction_lp.specs.Divisors.{gcd, IsGcd-gcd, same_bottom}
use Rattle.fraction_lp.specs.Ratio.{Ratio, ratio, ratio_is, reduced_facts, bottom-pos, same_ratio, sum, product, negated, zero_ratio, one_ratio}

-- x is (u - d) / b
pub record Is (x : Ratio) (u d b : ℕ) : Type 0 where
  pub positive : 0 < b
  pub same : up x.top * b + d * x.bottom ≡ u * x.bottom + down x.top * b

pub is_itself : (x : Ratio) → Is x (up x.top) (down x.top) x.bottom
is_itself x = record { positive = bottom-pos x; same = refl }

-- ---- a fraction is what it is made of

divides_parts : (t : ℤ) (g : ℕ) → g ∣ nat_abs t → (g * (up t / g) ≡ up t) × (g * (down t / g) ≡ down t)
divides_parts (pos n) g h = (mul-div_cancel' g h, mul-div_cancel' g (dvd-zero g))
divides_parts (negsuc n) g h = (mul-div_cancel' g (dvd-zero g), mul-div_cancel' g h)

scaled : (g u d b : ℕ) → u * (g * b) + (g * d) * b ≡ (g * u) * b + d * (g * b)
scaled g u d b = omega arith

pub ratio_means : (t : ℤ) (b : ℕ) → 0 < b → Is (ratio t b) (up t) (down t) b
ratio_means t b p =
    let g : ℕ = gcd (nat_abs t) b in
    let is = IsGcd-gcd (nat_abs t) b in
    let tops = divides_parts t g is.0 in
    let bottom : g * (b / g) ≡ b = mul-div_cancel' g is.1 in
    let parts = ratio_is t b p in
    let ups : up (ratio t b).top ≡ up t / g = ap up parts.0 ∙ (quot_is t g).0 in
    let downs : down (ratio t b).top ≡ down t / g = ap down parts.0 ∙ (quot_is t g).1 in
    let plain : (up t / g) * b + down t * (b / g) ≡ up t * (b / g) + (down t / g) * b =
    ap (λ n. (up t / g) * n + down t * (b / g)) (sym bottom)
    ∙ ap (λ n. (up t / g) * (g * (b / g)) + n * (b / g)) (sym tops.1)
    ∙ scaled g (up t / g) (down t / g) (b / g)
    ∙ ap (λ n. n * (b / g) + (down t / g) * (g * (b / g))) tops.0
    ∙ ap (λ n. up t * (b / g) + (down t / g) * n) bottom in
    record {
      positive = p;
      same =
          ap (λ n. n * b + down t * (ratio t b).bottom) ups ∙ ap (λ n. (up t / g) * b + down t * n) parts.1
          ∙ plain
          ∙ ap (λ n. up t * n + (down t / g) * b) (sym parts.1) ∙ ap (λ n. up t * (ratio t b).bottom + n * b) (sym downs);
    }

-- ---- told alike, the same

crossed : (x y : Ratio) (u d b u' d' b' : ℕ) → Is x u d b → Is y u' d' b' → u * b' + d' * b ≡ u' * b + d * b' →
    up x.top * y.bottom + down y.top * x.bottom ≡ up y.top * x.bottom + down x.top * y.bottom
crossed x y u d b u' d' b' p q e =
    eq_of_mul-eq-mul_left (b * b') (mul-pos p.positive q.positive) (up x.top * y.bottom + down y.top * x.bottom) (up y.top * x.bottom + down x.top * y.bottom)
    (alike (up x.top) (down x.top) x.bottom (up y.top) (down y.top) y.bottom u d b u' d' b' p.same q.same e)
  where
    alike : (ux dx xb uy dy yb u d b u' d' b' : ℕ) →
        ux * b + d * xb ≡ u * xb + dx * b → uy * b' + d' * yb ≡ u' * yb + dy * b' → u * b' + d' * b ≡ u' * b + d * b' →
        b * b' * (ux * yb + dy * xb) ≡ b * b' * (uy * xb + dx * yb)
    alike ux dx xb uy dy yb u d b u' d' b' p q e =
        omega (arith, ap (λ n. n * (yb * b')) p, ap (λ n. n * (xb * b)) q, ap (λ n. n * (xb * yb)) e)

same_product : (t s : ℤ) (b a : ℕ) → up t * b + down s * a ≡ up s * a + down t * b → t *ℤ pos b ≡ s *ℤ pos a
same_product t s b a e = same_in (t *ℤ pos b) (s *ℤ pos a) (omega (arith, product_is t (pos b), product_is s (pos a)))

same_top : (t s : ℤ) (b : ℕ) → 0 < b → up t * b + down s * b ≡ up s * b + down t * b → t ≡ s
same_top t s b p e =
    same_in t s (eq_of_mul-eq-mul_right b p (up t + down s) (up s + down t) (omega arith))

pub told_alike : (x y : Ratio) (u d b u' d' b' : ℕ) → Is x u d b → Is y u' d' b' → u * b' + d' * b ≡ u' * b + d * b' → x ≡ y
told_alike x y u d b u' d' b' p q e =
    let cross : up x.top * y.bottom + down y.top * x.bottom ≡ up y.top * x.bottom + down x.top * y.bottom = crossed x y u d b u' d' b' p q e in
    let sizes : nat_abs x.top * y.bottom ≡ nat_abs y.top * x.bottom =
    sym (unsigned_abs-mul x.top (pos y.bottom)) ∙ ap nat_abs (same_product x.top y.top y.bottom x.bottom cross) ∙ unsigned_abs-mul y.top (pos x.bottom) in
    let left = reduced_facts x.top x.bottom x.reduced in
    let right = reduced_facts y.top y.bottom y.reduced in
    let bottoms : x.bottom ≡ y.bottom = same_bottom (nat_abs x.top) x.bottom (nat_abs y.top) y.bottom left.0 right.0 left.1 right.1 sizes in
    let tops : x.top ≡ y.top =
    same_top x.top y.top x.bottom left.0
    (ap (λ n. up x.top * n + down y.top * x.bottom) bottoms ∙ cross ∙ ap (λ n. up y.top * x.bottom + down x.top * n) (sym bottoms)) in
    same_ratio x y tops bottoms

-- another way to tell a fraction
pub told_as : (x : Ratio) (u d b u' d' b' : ℕ) → Is x u d b → 0 < b' → u * b' + d' * b ≡ u' * b + d * b' → Is x u' d' b'
told_as x u d b u' d' b' p q e = record {
  positive = q;
  same =
      eq_of_mul-eq-mul_left b p.positive (up x.top * b' + d' * x.bottom) (u' * x.bottom + down x.top * b')
      (alike (up x.top) (down x.top) x.bottom u d b u' d' b' p.same e);
}
  where
    alike : (ux dx xb u d b u' d' b' : ℕ) → ux * b + d * xb ≡ u * xb + dx * b → u * b' + d' * b ≡ u' * b + d * b' →
        b * (ux * b' + d' * xb) ≡ b * (u' * xb + dx * b')
    alike ux dx xb u d b u' d' b' p e = omega (arith, ap (λ n. n * b') p, ap (λ n. n * xb) e)

-- ---- sums, products and negations

sum_alike : (ux dx xb uy dy yb u d b u' d' b' ut dt : ℕ) →
    ux * b + d * xb ≡ u * xb + dx * b → uy * b' + d' * yb ≡ u' * yb + dy * b' →
    ut + (dx * yb + dy * xb) ≡ dt + (ux * yb + uy * xb) →
    ut * (b * b') + (d * b' + d' * b) * (xb * yb) ≡ (u * b' + u' * b) * (xb * yb) + dt * (b * b')
sum_alike ux dx xb uy dy yb u d b u' d' b' ut dt p q e =
    omega (arith, ap (λ n. n * (yb * b')) p, ap (λ n. n * (xb * b)) q, ap (λ n. n * (b * b')) e)

pub is_sum : (x y : Ratio) (u d b u' d' b' : ℕ) → Is x u d b → Is y u' d' b' → Is (sum x y) (u * b' + u' * b) (d * b' + d' * b) (b * b')
is_sum x y u d b u' d' b' p q =
    let top : ℤ = x.top *ℤ pos y.bottom +ℤ y.top *ℤ pos x.bottom in
    let parts : up top + (down x.top * y.bottom + down y.top * x.bottom) ≡ down top + (up x.top * y.bottom + up y.top * x.bottom) =
    omega (arith, sum_is_lem (x.top *ℤ pos y.bottom) (y.top *ℤ pos x.bottom), product_is x.top (pos y.bottom), product_is y.top (pos x.bottom)) in
    told_as (sum x y) (up top) (down top) (x.bottom * y.bottom) (u * b' + u' * b) (d * b' + d' * b) (b * b')
    (ratio_means top (x.bottom * y.bottom) (mul-pos (bottom-pos x) (bottom-pos y)))
    (mul-pos p.positive q.positive)
    (sum_alike (up x.top) (down x.top) x.bottom (up y.top) (down y.top) y.bottom u d b u' d' b' (up top) (down top) p.same q.same parts)

product_alike : (ux dx xb uy dy yb u d b u' d' b' : ℕ) →
    ux * b + d * xb ≡ u * xb + dx * b → uy * b' + d' * yb ≡ u' * yb + dy * b' →
    (ux * uy + dx * dy) * (b * b') + (u * d' + d * u') * (xb * yb) ≡ (u * u' + d * d') * (xb * yb) + (ux * dy + dx * uy) * (b * b')
product_alike ux dx xb uy dy yb u d b u' d' b' p q =
    omega (arith, ap (λ n. n * (uy * b')) p, ap (λ n. n * (dy * b')) p, ap (λ n. n * (u * xb)) q, ap (λ n. n * (d * xb)) q)

pub is_product : (x y : Ratio) (u d b u' d' b' : ℕ) → Is x u d b → Is y u' d' b' → Is (product x y) (u * u' + d * d') (u * d' + d * u') (b * b')
is_product x y u d b u' d' b' p q =
    let top : ℤ = x.top *ℤ y.top in
    let parts = product_is x.top y.top in
    told_as (product x y) (up top) (down top) (x.bottom * y.bottom) (u * u' + d * d') (u * d' + d * u') (b * b')
    (ratio_means top (x.bottom * y.bottom) (mul-pos (bottom-pos x) (bottom-pos y)))
    (mul-pos p.positive q.positive)
    (ap (λ n. n * (b * b') + (u * d' + d * u') * (x.bottom * y.bottom)) parts.0
    ∙ product_alike (up x.top) (down x.top) x.bottom (up y.top) (down y.top) y.bottom u d b u' d' b' p.same q.same
    ∙ ap (λ n. (u * u' + d * d') * (x.bottom * y.bottom) + n * (b * b')) (sym parts.1))

pub is_negated : (x : Ratio) (u d b : ℕ) → Is x u d b → Is (negated x) d u b
is_negated x u d b p =
    let parts = neg_is x.top in
    record {
      positive = p.positive;
      same =
          ap (λ n. n * b + u * x.bottom) parts.0 ∙ turned_alike (up x.top) (down x.top) x.bottom u d b p.same
          ∙ ap (λ n. d * x.bottom + n * b) (sym parts.1);
    }
  where
    turned_alike : (ux dx xb u d b : ℕ) → ux * b + d * xb ≡ u * xb + dx * b → dx * b + u * xb ≡ d * xb + ux * b
    turned_alike ux dx xb u d b e = omega arith

-- ---- the laws of a field

pub record Told (x : Ratio) : Type 0 where
  pub u : ℕ
  pub d : ℕ
  pub b : ℕ
  pub is : Is x u d b

abbrev pub itself : (x : Ratio) → Told x
itself x = record { u = up x.top; d = down x.top; b = x.bottom; is = is_itself x }

abbrev pub summed : {x y : Ratio} → Told x → Told y → Told (sum x y)
summed {x} {y} s t = record {
  u = s.u * t.b + t.u * s.b;
  d = s.d * t.b + t.d * s.b;
  b = s.b * t.b;
  is = is_sum x y s.u s.d s.b t.u t.d t.b s.is t.is;
}

abbrev pub multiplied : {x y : Ratio} → Told x → Told y → Told (product x y)
multiplied {x} {y} s t = record {
  u = s.u * t.u + s.d * t.d;
  d = s.u * t.d + s.d * t.u;
  b = s.b * t.b;
  is = is_product x y s.u s.d s.b t.u t.d t.b s.is t.is;
}

abbrev pub turned_round : {x : Ratio} → Told x → Told (negated x)
turned_round {x} s = record { u = s.d; d = s.u; b = s.b; is = is_negated x s.u s.d s.b s.is }

abbrev pub nothing : Told zero_ratio
nothing = record { u = 0; d = 0; b = 1; is = is_itself zero_ratio }

abbrev pub unit : Told one_ratio
unit = record { u = 1; d = 0; b = 1; is = is_itself one_ratio }

pub alike : {x y : Ratio} (s : Told x) (t : Told y) → s.u * t.b + t.d * s.b ≡ t.u * s.b + s.d * t.b → x ≡ y
alike {x} {y} s t e = told_alike x y s.u s.d s.b t.u t.d t.b s.is t.is e

pub sum_comm : (x y : Ratio) → sum x y ≡ sum y x
sum_comm x y = alike (summed (itself x) (itself y)) (summed (itself y) (itself x)) (omega arith)

pub sum_assoc : (x y z : Ratio) → sum (sum x y) z ≡ sum x (sum y z)
sum_assoc x y z =
    alike (summed (summed (itself x) (itself y)) (itself z)) (summed (itself x) (summed (itself y) (itself z))) (omega arith)

pub sum-zero : (x : Ratio) → sum x zero_ratio ≡ x
sum-zero x = alike (summed (itself x) nothing) (itself x) (omega arith)

pub sum-negated : (x : Ratio) → sum x (negated x) ≡ zero_ratio
sum-negated x = alike (summed (itself x) (turned_round (itself x))) nothing (omega arith)

pub product_comm : (x y : Ratio) → product x y ≡ product y x
product_comm x y = alike (multiplied (itself x) (itself y)) (multiplied (itself y) (itself x)) (omega arith)

pub product_assoc : (x y z : Ratio) → product (product x y) z ≡ product x (product y z)
product_assoc x y z =
    alike (multiplied (multiplied (itself x) (itself y)) (itself z)) (multiplied (itself x) (multiplied (itself y) (itself z))) (omega arith)

pub product-sum : (x y z : Ratio) → product x (sum y z) ≡ sum (product x y) (product x z)
product-sum x y z =
    alike (multiplied (itself x) (summed (itself y) (itself z)))
    (summed (multiplied (itself x) (itself y)) (multiplied (itself x) (itself z))) (omega arith)

pub product-one : (x : Ratio) → product x one_ratio ≡ x
product-one x = alike (multiplied (itself x) unit) (itself x) (omega arith)

pub product-zero : (x : Ratio) → product x zero_ratio ≡ zero_ratio
product-zero x = alike (multiplied (itself x) nothing) nothing (omega arith)

pub negated-sum : (x y : Ratio) → negated (sum x y) ≡ sum (negated x) (negated y)
negated-sum x y =
    alike (turned_round (summed (itself x) (itself y))) (summed (turned_round (itself x)) (turned_round (itself y))) (omega arith)

pub negated-product : (x y : Ratio) → negated (product x y) ≡ product (negated x) y
negated-product x y =
    alike (turned_round (multiplied (itself x) (itself y))) (multiplied (turned_round (itself x)) (itself y)) (omega arith)

pub negated-negated : (x : Ratio) → negated (negated x) ≡ x
negated-negated x = alike (turned_round (turned_round (itself x))) (itself x) (omega arith)

-- ---- the same in products of whole numbers

pub ratio-value : (t : ℤ) (b : ℕ) → 0 < b → (ratio t b).top *ℤ pos b ≡ t *ℤ pos (ratio t b).bottom
ratio-value t b p =
    same_product (ratio t b).top t b (ratio t b).bottom (ratio_means t b p).same

pub same_value : (x y : Ratio) → x.top *ℤ pos y.bottom ≡ y.top *ℤ pos x.bottom → x ≡ y
same_value x y e =
    let left = product_is x.top (pos y.bottom) in
    let right = product_is y.top (pos x.bottom) in
    alike (itself x) (itself y)
    (omega (arith, left.0, left.1, right.0, right.1, (same_out (x.top *ℤ pos y.bottom) (y.top *ℤ pos x.bottom) e).0, (same_out (x.top *ℤ pos y.bottom) (y.top *ℤ pos x.bottom) e).1))
