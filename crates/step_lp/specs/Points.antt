-- The plan of a point: its rates over their least common denominator, framed.
use Rattle.std.specs.Prelude.{◌≡◌, ℕ, ◌+◌, ◌*◌, ◌/◌, ◌^◌, ◌<◌, true, nat_abs, nat_le, List, [], ◌∷◌, take, length, Option, Some, None, if◌then◌else◌}
use Rattle.rollout_rules.specs.declared.limits.TheConstants.{LARGEST_SCALE}
use Rattle.rollout_rules.specs.Sums.{list_below}
use Rattle.rollout_rules.specs.Wan.{Problem, Plan}
use Rattle.scratch_plan.specs.Frame.{frame}
use Rattle.fraction_lp.specs.Divisors.{gcd}
use Rattle.fraction_lp.specs.Ratio.{Ratio, zero_ratio}
use Rattle.step_lp.specs.Program.{used_at, used_count, rate_blocks}
use Rattle.step_lp.specs.Moves.{place_of, number_from}

-- the least common multiple
abbrev pub lcm : ℕ → ℕ → ℕ
lcm a b = a / gcd a b * b

-- that of a number and the denominators of some fractions
abbrev pub common_bottom : ℕ → List Ratio → ℕ
common_bottom n [] = n
common_bottom n (x ∷ xs) = common_bottom (lcm n x.bottom) xs

-- the rates of a point stand ahead of its tops
abbrev pub rates_of : Problem → ℕ → List Ratio → List Ratio
rates_of p q xs = take (rate_blocks q * used_count p) xs

-- the scale of a point's plan: the least common denominator of its rates
abbrev pub scale_of : Problem → ℕ → List Ratio → ℕ
scale_of p q xs = common_bottom 1 (rates_of p q xs)

-- a fraction in units of 1/scale
abbrev pub units_of : ℕ → Ratio → ℕ
units_of scale x = nat_abs x.top * (scale / x.bottom)

-- a tunnel's rate where a block begins; a tunnel that is not used has none
abbrev pub rate_from : Problem → List Ratio → ℕ → ℕ → Ratio
rate_from p xs first t = if used_at p t then number_from p xs first t else zero_ratio

abbrev pub rate_row : Problem → ℕ → List Ratio → ℕ → List ℕ
rate_row p scale xs first = list_below (length p.tunnels) (λ t. units_of scale (rate_from p xs first t))

abbrev pub rows_between : Problem → ℕ → ℕ → List Ratio → List (List ℕ)
rows_between p q scale xs = list_below (rate_blocks q) (λ b. rate_row p scale xs (b * used_count p))

abbrev pub within_scale : ℕ → Option ℕ
within_scale n = if nat_le n LARGEST_SCALE then Some n else None

abbrev pub plan_over : Problem → ℕ → List Ratio → Option ℕ → Option Plan
plan_over p q xs None = None
plan_over p q xs (Some scale) = Some (frame p scale (rows_between p q scale xs))

abbrev pub plan_of : Problem → ℕ → List Ratio → Option Plan
plan_of p q xs = plan_over p q xs (within_scale (scale_of p q xs))

-- the rates of a block are there, and fit a rate of a plan
pub record FitsAt (p : Problem) (scale : ℕ) (xs : List Ratio) (first : ℕ) : Type 0 where
  pub inside : (t : ℕ) → t < length p.tunnels → used_at p t ≡ true → first + place_of p t < length xs
  pub small : (t : ℕ) → t < length p.tunnels → used_at p t ≡ true → units_of scale (number_from p xs first t) < 2 ^ 64

abbrev pub HaveRates : Problem → ℕ → ℕ → List Ratio → Type 0
HaveRates p q scale xs = (b : ℕ) → b < rate_blocks q → FitsAt p scale xs (b * used_count p)
