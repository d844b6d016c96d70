-- Numbers of a fraction's text.
use Rattle.std.proofs.Common.{◌≡◌, ℕ, ◌+◌, ◌*◌, ◌^◌, ◌<◌, ◌≤◌, Bool, true, false, ◌&&◌, ℤ, pos, nat_lt, Option, Some, None, if◌then◌else◌, refl, sym, ap, ◌∙◌, arith, lt-ltb, le-ltb, eq-eqb}
use Rattle.std.specs.Prelude.{◌==◌}
use Rattle.fraction_lp.specs.Divisors.{gcd}
use Rattle.fraction_lp.specs.Ratio.{Ratio, new_ratio}
use Rattle.problem_json.specs.GrammarFractions.{grown, signed, reduced_of}

-- ---- a number that has no room for a digit, and one that has

pub far_above : (n d : ℕ) → 17014118346046923173168730371588410572 < n → None ≡ grown n d
far_above n d far =
    let over : nat_lt (n * 10 + d) (2 ^ 127) ≡ false = le-ltb (n * 10 + d) (2 ^ 127) (omega (arith, far)) in
    sym (ap (λ (b : Bool). if b then Some (n * 10 + d) else None) over)

pub just_above : (n d m : ℕ) → m ≡ n * 10 + d → 170141183460469231731687303715884105727 < m → None ≡ grown n d
just_above n d m is above =
    let over : nat_lt (n * 10 + d) (2 ^ 127) ≡ false = le-ltb (n * 10 + d) (2 ^ 127) (omega (arith, is, above)) in
    sym (ap (λ (b : Bool). if b then Some (n * 10 + d) else None) over)

pub has_room : (n d m : ℕ) → m ≡ n * 10 + d → m ≤ 170141183460469231731687303715884105727 → Some m ≡ grown n d
has_room n d m is most =
    let fits : nat_lt (n * 10 + d) (2 ^ 127) ≡ true = lt-ltb (n * 10 + d) (2 ^ 127) (omega (arith, is, most)) in
    ap Some is ∙ sym (ap (λ (b : Bool). if b then Some (n * 10 + d) else None) fits)

-- ---- the parts of a fraction

module _ (r : Option Ratio) where
  chosen : (x y z : Bool) → x ≡ true → y ≡ true → z ≡ true → (if x && y && z then r else None) ≡ r
  chosen x y z p q s = rw (p, q, s) refl

  first_false : (x y z : Bool) → x ≡ false → None ≡ (if x && y && z then r else None)
  first_false x y z e = rw e refl

  second_false : (x y z : Bool) → y ≡ false → None ≡ (if x && y && z then r else None)
  second_false true y z e = rw e refl
  second_false false y z e = refl

  third_false : (x y z : Bool) → z ≡ false → None ≡ (if x && y && z then r else None)
  third_false true true z e = rw e refl
  third_false true false z e = refl
  third_false false y z e = refl

module _ (minus : Bool) (n d : ℕ) where
  pub top_above : 170141183460469231731687303715884105727 < n → None ≡ reduced_of minus n d
  top_above far =
      first_false (new_ratio (signed minus (pos n)) (pos d)) (nat_lt n (2 ^ 127)) (nat_lt d (2 ^ 127)) (gcd n d == 1) (le-ltb n (2 ^ 127) (omega (arith, far)))

  pub bottom_above : 170141183460469231731687303715884105727 < d → None ≡ reduced_of minus n d
  bottom_above far =
      second_false (new_ratio (signed minus (pos n)) (pos d)) (nat_lt n (2 ^ 127)) (nat_lt d (2 ^ 127)) (gcd n d == 1) (le-ltb d (2 ^ 127) (omega (arith, far)))

  pub not_reduced : (gcd n d == 1) ≡ false → None ≡ reduced_of minus n d
  not_reduced e = third_false (new_ratio (signed minus (pos n)) (pos d)) (nat_lt n (2 ^ 127)) (nat_lt d (2 ^ 127)) (gcd n d == 1) e

  pub reduced_is : (t b : ℤ) → n ≤ 170141183460469231731687303715884105727 → d ≤ 170141183460469231731687303715884105727 → gcd n d ≡ 1 → t ≡ signed minus (pos n) → b ≡ pos d
      → new_ratio t b ≡ reduced_of minus n d
  reduced_is t b top bottom one e f =
      ap (λ (z : ℤ). new_ratio z b) e ∙ ap (new_ratio (signed minus (pos n))) f
      ∙ sym (chosen (new_ratio (signed minus (pos n)) (pos d)) (nat_lt n (2 ^ 127)) (nat_lt d (2 ^ 127)) (gcd n d == 1)
      (lt-ltb n (2 ^ 127) (omega (arith, top))) (lt-ltb d (2 ^ 127) (omega (arith, bottom))) (eq-eqb (gcd n d) 1 one))
