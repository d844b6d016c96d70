-- The greatest common divisor by Euclid's algorithm, and when a fraction is reduced.
use Rattle.std.specs.Prelude.{◌≡◌, ℕ, zero, suc, ◌+◌, ◌*◌, ◌/◌, ◌%◌, ◌<◌, ◌≤◌, refl}
use Rattle.std.specs.Int.{IsGcd, ◌∣◌}
use Rattle.std.proofs.Common.{sym, ◌∙◌, ap, subst, arith}
use Rattle.std.proofs.lemmas.Nat.Gcd.{IsGcd-from_zero, IsGcd-from_mod, same_from_IsGcd, dvd_antisymm, dvd_refl, le_of_dvd}
use Rattle.std.proofs.Math.Nat.{mul-add-mod_self_left, mul-lt-mul_of_pos_left, mod-eq_of_lt, mul-div_cancel', eq_of_mul-eq-mul_left, eq_of_mul-eq-mul_right, dvd-mul_right, dvd-mul_left, mod-lt, mul-zero, mul-one, mul_comm, pos_of_dvd_of_pos}

-- Euclid's algorithm, in at most so many steps
abbrev pub gcd_within : ℕ → ℕ → ℕ → ℕ
gcd_within zero a b = a
gcd_within (suc steps) a zero = a
gcd_within (suc steps) a (suc b) = gcd_within steps (suc b) (a % suc b)

-- the greatest common divisor: each remainder is smaller than the last, so b steps are enough
abbrev pub gcd : ℕ → ℕ → ℕ
gcd a b = gcd_within b a b

rest_below : (a b : ℕ) → a % suc b ≤ b
rest_below a b = let h : a % suc b < suc b = omega arith in omega arith

IsGcd-within : (steps a b : ℕ) → b ≤ steps → IsGcd a b (gcd_within steps a b)
IsGcd-within zero a b h = IsGcd-from_zero a b (omega arith)
IsGcd-within (suc steps) a zero h = IsGcd-from_zero a zero refl
IsGcd-within (suc steps) a (suc b) h =
    IsGcd-from_mod a (suc b) (gcd_within steps (suc b) (a % suc b))
    (IsGcd-within steps (suc b) (a % suc b) (omega (arith, rest_below a b)))

pub IsGcd-gcd : (a b : ℕ) → IsGcd a b (gcd a b)
IsGcd-gcd a b = IsGcd-within b a b (omega arith)

distributed : (k m q r : ℕ) → k * (m * q + r) ≡ k * m * q + k * r
distributed k m q r = omega arith

-- a factor goes through a remainder
scaled_rest : (k a m : ℕ) → 0 < k → 0 < m → (k * a) % (k * m) ≡ k * (a % m)
scaled_rest k a m h p =
    let parts : a ≡ m * (a / m) + a % m = omega arith in
    let split : k * a ≡ k * m * (a / m) + k * (a % m) =
    ap (λ n. k * n) parts ∙ distributed k m (a / m) (a % m) in
    let below : k * (a % m) < k * m = mul-lt-mul_of_pos_left (omega arith) h in
    ap (λ n. n % (k * m)) split ∙ mul-add-mod_self_left (k * m) (a / m) (k * (a % m)) ∙ mod-eq_of_lt below

IsGcd-scaled_within : (steps a b k : ℕ) → 0 < k → b ≤ steps → IsGcd (k * a) (k * b) (k * gcd_within steps a b)
IsGcd-scaled_within zero a b k p h =
    let none : b ≡ 0 = omega arith in IsGcd-from_zero (k * a) (k * b) (ap (λ n. k * n) none ∙ mul-zero k)
IsGcd-scaled_within (suc steps) a zero k p h = IsGcd-from_zero (k * a) (k * zero) (omega arith)
IsGcd-scaled_within (suc steps) a (suc b) k p h =
    IsGcd-from_mod (k * a) (k * suc b) (k * gcd_within steps (suc b) (a % suc b))
    (subst (λ (r : ℕ). IsGcd (k * suc b) r (k * gcd_within steps (suc b) (a % suc b)))
    (sym (scaled_rest k a (suc b) p (omega arith)))
    (IsGcd-scaled_within steps (suc b) (a % suc b) k p (omega (arith, rest_below a b))))

pub IsGcd-scaled : (a b k : ℕ) → 0 < k → IsGcd (k * a) (k * b) (k * gcd a b)
IsGcd-scaled a b k p = IsGcd-scaled_within b a b k p (omega arith)

-- a number that divides a product and has no factor in common with one side divides the other
pub dvd_of_dvd-mul : (a b d : ℕ) → 0 < d → gcd a b ≡ 1 → b ∣ d * a → b ∣ d
dvd_of_dvd-mul a b d p e h =
    let whole : IsGcd (d * a) (d * b) (d * gcd a b) = IsGcd-scaled a b d p in
    subst (λ (n : ℕ). b ∣ n) (ap (λ n. d * n) e ∙ mul-one d) (whole.2 b h (dvd-mul_left b d))

pub gcd-pos : (a b : ℕ) → 0 < b → 0 < gcd a b
gcd-pos a b p = pos_of_dvd_of_pos (IsGcd-gcd a b).1 p

-- what is left of two numbers once both are divided by their greatest common divisor has none
pub gcd-divided : (a b : ℕ) → 0 < b → gcd (a / gcd a b) (b / gcd a b) ≡ 1
gcd-divided a b p =
    let g : ℕ = gcd a b in
    let is : IsGcd a b g = IsGcd-gcd a b in
    let some : 0 < g = gcd-pos a b p in
    let left : g * (a / g) ≡ a = mul-div_cancel' g is.0 in
    let right : g * (b / g) ≡ b = mul-div_cancel' g is.1 in
    let whole : IsGcd (g * (a / g)) (g * (b / g)) (g * gcd (a / g) (b / g)) = IsGcd-scaled (a / g) (b / g) g some in
    let moved : IsGcd a b (g * gcd (a / g) (b / g)) =
    subst (λ (n : ℕ). IsGcd a n (g * gcd (a / g) (b / g))) right
    (subst (λ (n : ℕ). IsGcd n (g * (b / g)) (g * gcd (a / g) (b / g))) left whole) in
    eq_of_mul-eq-mul_left g some (gcd (a / g) (b / g)) 1
    (sym (same_from_IsGcd a b g (g * gcd (a / g) (b / g)) is moved) ∙ sym (mul-one g))

-- two reduced fractions of one value have one bottom
pub same_bottom : (a b c d : ℕ) → 0 < b → 0 < d → gcd a b ≡ 1 → gcd c d ≡ 1 → a * d ≡ c * b → b ≡ d
same_bottom a b c d p q e f h =
    let over_d : b ∣ d * a = subst (λ (n : ℕ). b ∣ n) (sym h ∙ mul_comm a d) (dvd-mul_left b c) in
    let over_b : d ∣ b * c = subst (λ (n : ℕ). d ∣ n) (h ∙ mul_comm c b) (dvd-mul_left d a) in
    dvd_antisymm (dvd_of_dvd-mul a b d q e over_d) (dvd_of_dvd-mul c d b p f over_b)

pub gcd-le : (a b : ℕ) → 0 < b → gcd a b ≤ b
gcd-le a b p = le_of_dvd p (IsGcd-gcd a b).1
