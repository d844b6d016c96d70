-- Sums and bounds of blended rates: so many parts of the old and so many of the new.
use Rattle.std.proofs.Common.{◌≡◌, ℕ, zero, suc, ◌+◌, ◌*◌, ◌<◌, ◌≤◌, ◌⊎◌, min, max, Bool, true, false, length, if◌then◌else◌, refl, sym, ◌∙◌, inl, inr, arith}
use Rattle.std.proofs.lemmas.Bool.{cases_lt}
use Rattle.std.proofs.Math.Nat.{mul-le-mul_left, le_of_mul-le-mul_left}
use Rattle.rollout_rules.specs.Sums.{sum_below}
use Rattle.rollout_rules.specs.Wan.{Problem, crosses, flow_at, tunnel_of}
use Rattle.rollout_rules.specs.Items.{load}
use Rattle.rollout_rules.specs.Valid.{flow_total}

-- ---- sums
pub sum-mixed : (m x y : ℕ) (f g : ℕ → ℕ) → sum_below m (λ t. x * f t + y * g t) ≡ x * sum_below m f + y * sum_below m g
sum-mixed zero x y f g = omega arith
sum-mixed (suc m) x y f g = grown (sum_below m f) (sum_below m g) (f m) (g m) x y (sum_below m (λ t. x * f t + y * g t)) (sum-mixed m x y f g)
  where
    grown : (a b c d x y s : ℕ) → s ≡ x * a + y * b → s + (x * c + y * d) ≡ x * (a + c) + y * (b + d)
    grown a b c d x y s e = omega (arith, e)

where-crossed : (b : Bool) (x y o w : ℕ) → (if b then x * o + y * w else 0) ≡ x * (if b then o else 0) + y * (if b then w else 0)
where-crossed true x y o w = refl
where-crossed false x y o w = omega arith

sum-same : (m : ℕ) (f g : ℕ → ℕ) → ((t : ℕ) → f t ≡ g t) → sum_below m f ≡ sum_below m g
sum-same zero f g e = refl
sum-same (suc m) f g e = omega (arith, sum-same m f g e, e m)

pub load-mixed : (p : Problem) (x y : ℕ) (o w : ℕ → ℕ) (l : ℕ) → load p (λ t. x * o t + y * w t) l ≡ x * load p o l + y * load p w l
load-mixed p x y o w l =
    sum-same (length p.tunnels) (λ t. if crosses p t l then x * o t + y * w t else 0) (λ t. x * (if crosses p t l then o t else 0) + y * (if crosses p t l then w t else 0)) (λ t. where-crossed (crosses p t l) x y (o t) (w t))
    ∙ sum-mixed (length p.tunnels) x y (λ t. if crosses p t l then o t else 0) (λ t. if crosses p t l then w t else 0)

pub total-mixed : (p : Problem) (x y : ℕ) (o w : ℕ → ℕ) (f : ℕ) → flow_total p (λ t. x * o t + y * w t) f ≡ x * flow_total p o f + y * flow_total p w f
total-mixed p x y o w f = sum-mixed (flow_at p f).tunnels x y (λ j. o (tunnel_of p f j)) (λ j. w (tunnel_of p f j))

-- ---- bounds
-- two neighbours are at most as many parts as both have
pub max-neighbours : (r a o w : ℕ) → max ((r + 1) * o + a * w) (r * o + (a + 1) * w) ≤ (r + 1) * o + (a + 1) * w
max-neighbours r a o w = omega arith

-- loads that leave a share 1/k of the capacity free: any k parts of both fit k - 1 times
pub parts-fit : (k x y n c o w : ℕ) → x + y ≡ k → 0 < k → k * o ≤ n * c → k * w ≤ n * c → x * o + y * w ≤ c * n
parts-fit k x y n c o w parts some old new =
    let old_parts : (x + y) * o ≤ n * c = rw parts old in
    let new_parts : (x + y) * w ≤ n * c = rw parts new in
    le_of_mul-le-mul_left {k = x + y} (times x y n c o w (mul-le-mul_left x old_parts) (mul-le-mul_left y new_parts)) (rw parts some)
  where
    times : (x y n c o w : ℕ) → x * ((x + y) * o) ≤ x * (n * c) → y * ((x + y) * w) ≤ y * (n * c) → (x + y) * (x * o + y * w) ≤ (x + y) * (c * n)
    times x y n c o w old new = omega (arith, old, new)

-- n parts of both lie between n times one and n times the other
pub between-low : (n x y o w : ℕ) → x + y ≡ n → min (n * o) (n * w) ≤ x * o + y * w
between-low n x y o w parts = elim (cases_lt o w) as (λ c. min (n * o) (n * w) ≤ x * o + y * w) [
  | inl less ↦
      let more : y * o ≤ y * w = mul-le-mul_left y (omega arith) in
      let all : n * o ≡ x * o + y * o = rw (sym parts) (omega arith) in
      omega (arith, more, all)
  | inr more ↦
      let less : x * w ≤ x * o = mul-le-mul_left x (omega arith) in
      let all : n * w ≡ x * w + y * w = rw (sym parts) (omega arith) in
      omega (arith, less, all)
]

pub between-high : (n x y o w : ℕ) → x + y ≡ n → x * o + y * w ≤ max (n * o) (n * w)
between-high n x y o w parts = elim (cases_lt o w) as (λ c. x * o + y * w ≤ max (n * o) (n * w)) [
  | inl less ↦
      let more : x * o ≤ x * w = mul-le-mul_left x (omega arith) in
      let all : n * w ≡ x * w + y * w = rw (sym parts) (omega arith) in
      omega (arith, more, all)
  | inr more ↦
      let less : y * w ≤ y * o = mul-le-mul_left y (omega arith) in
      let all : n * o ≡ x * o + y * o = rw (sym parts) (omega arith) in
      omega (arith, less, all)
]

-- a positive blend has a positive part
pub positive-part : (x y o w : ℕ) → 0 < x * o + y * w → (0 < o) ⊎ (0 < w)
positive-part x y (suc o) w lt = inl (omega arith)
positive-part x y zero (suc w) lt = inr (omega arith)
positive-part x y zero zero lt = absurd (omega (arith, lt))
