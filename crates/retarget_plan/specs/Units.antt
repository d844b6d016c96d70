-- Units in which several numbers are whole.
use Rattle.std.specs.Prelude.{ℕ, zero, suc, ◌*◌, Option, option_map}
use Rattle.fraction_lp.specs.Divisors.{gcd}

-- the greatest common divisor of a number and of f 0 .. f (n - 1)
abbrev pub divisor_below : ℕ → ℕ → (ℕ → ℕ) → ℕ
divisor_below zero top f = top
divisor_below (suc n) top f = gcd (f n) (divisor_below n top f)

-- a rate, where there is one, so many times
abbrev pub times : ℕ → Option ℕ → Option ℕ
times factor rate = option_map (λ n. n * factor) rate
