-- Small laws of numbers.
use Rattle.std.proofs.Common.{arith, suc, ℕ, ◌+◌, ◌≡◌, ◌≤◌}

pub at_most_through : (a b c : ℕ) → a ≤ b → b ≤ c → a ≤ c
at_most_through a b c x y = omega arith

pub one_more : (n : ℕ) → suc n ≡ n + 1
one_more n = omega arith
