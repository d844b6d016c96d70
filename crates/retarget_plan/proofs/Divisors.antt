-- The greatest common divisor of several numbers, and what is left of each by it.
use Rattle.std.proofs.Common.{◌≡◌, ℕ, zero, suc, ◌+◌, ◌*◌, ◌<◌, ◌≤◌, inl, inr, ap, ap₂, ◌∙◌, subst, arith}
use Rattle.std.specs.Prelude.{◌/◌}
use Rattle.std.specs.Int.{◌∣◌}
use Rattle.std.proofs.lemmas.Bool.{cases_lt}
use Rattle.std.proofs.lemmas.Nat.Gcd.{dvd_trans, dvd_refl}
use Rattle.std.proofs.Math.Nat.{mul-div_cancel', mul-div-le, mul-le-mul_right}
use Rattle.fraction_lp.specs.Divisors.{gcd, IsGcd-gcd, gcd-pos, gcd-le}
use Rattle.retarget_plan.specs.Units.{divisor_below}

pub divisor-pos : (n top : ℕ) (f : ℕ → ℕ) → 0 < top → 0 < divisor_below n top f
divisor-pos zero top f some = some
divisor-pos (suc n) top f some = gcd-pos (f n) (divisor_below n top f) (divisor-pos n top f some)

pub divisor-le : (n top : ℕ) (f : ℕ → ℕ) → 0 < top → divisor_below n top f ≤ top
divisor-le zero top f some = omega arith
divisor-le (suc n) top f some = omega (arith, gcd-le (f n) (divisor_below n top f) (divisor-pos n top f some), divisor-le n top f some)

pub divisor-top : (n top : ℕ) (f : ℕ → ℕ) → divisor_below n top f ∣ top
divisor-top zero top f = dvd_refl top
divisor-top (suc n) top f = dvd_trans (gcd (f n) (divisor_below n top f)) (IsGcd-gcd (f n) (divisor_below n top f)).1 (divisor-top n top f)

pub divisor-each : (n top : ℕ) (f : ℕ → ℕ) (k : ℕ) → k < n → divisor_below n top f ∣ f k
divisor-each zero top f k lt = absurd (omega (arith, lt))
divisor-each (suc n) top f k lt = elim (cases_lt k n) as (λ _. divisor_below (suc n) top f ∣ f k) [
  | inl below ↦ dvd_trans (gcd (f n) (divisor_below n top f)) (IsGcd-gcd (f n) (divisor_below n top f)).1 (divisor-each n top f k below)
  | inr above ↦
      let at : n ≡ k = omega (arith, lt, above) in
      subst (λ (m : ℕ). gcd (f n) (divisor_below n top f) ∣ f m) at (IsGcd-gcd (f n) (divisor_below n top f)).0
]

pub divisor-greatest : (n top : ℕ) (f : ℕ → ℕ) (d : ℕ) → d ∣ top → ((k : ℕ) → k < n → d ∣ f k) → d ∣ divisor_below n top f
divisor-greatest zero top f d whole each = whole
divisor-greatest (suc n) top f d whole each =
    (IsGcd-gcd (f n) (divisor_below n top f)).2 d (each n (omega arith)) (divisor-greatest n top f d whole (λ k lt. each k (omega (arith, lt))))

-- so each of them is a number of such units
pub top-units : (n top : ℕ) (f : ℕ → ℕ) → divisor_below n top f * (top / divisor_below n top f) ≡ top
top-units n top f = mul-div_cancel' (divisor_below n top f) (divisor-top n top f)

pub each-units : (n top : ℕ) (f : ℕ → ℕ) (k : ℕ) → k < n → divisor_below n top f * (f k / divisor_below n top f) ≡ f k
each-units n top f k lt = mul-div_cancel' (divisor_below n top f) (divisor-each n top f k lt)

-- a quotient is no larger
pub quotient-le : (a b : ℕ) → 0 < b → a / b ≤ a
quotient-le a b some =
    let back : b * (a / b) ≤ a = mul-div-le a b in
    let once : 1 * (a / b) ≤ b * (a / b) = mul-le-mul_right (a / b) (omega (arith, some)) in
    omega (arith, back, once)

-- one number more, and that there is some
pub divisor-next : (n top : ℕ) (f : ℕ → ℕ) (number so_far next : ℕ) → so_far ≡ divisor_below n top f → number ≡ f n → next ≡ gcd number so_far → next ≡ divisor_below (n + 1) top f
divisor-next n top f number so_far next so this is =
    let more : suc n ≡ n + 1 = omega arith in
    is ∙ ap₂ gcd this so ∙ ap (λ (m : ℕ). divisor_below m top f) more

pub divisor-some : (n top : ℕ) (f : ℕ → ℕ) (so_far : ℕ) → 0 < top → so_far ≡ divisor_below n top f → 0 < so_far
divisor-some n top f so_far some so = omega (arith, so, divisor-pos n top f some)
