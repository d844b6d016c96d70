-- A rate of a split, within its limit.
use Rattle.std.proofs.Common.{ℕ, ◌≤◌, Option, Some, None, unwrap_or, arith}
use Rattle.rollout_rules.specs.declared.limits.TheConstants.{LARGEST_RATE}
use Rattle.rollout_rules.specs.Network.{IsRate}

pub rate_within : (r : Option ℕ) → IsRate r → unwrap_or r 0 ≤ LARGEST_RATE
rate_within None is = omega arith
rate_within (Some n) is = is
