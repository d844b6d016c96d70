-- A target: the new rate of each tunnel, and the capacity of each link to which one is given, by their numbers.
use Rattle.std.specs.Prelude.{ℕ, List, Option}

pub record Targeted : Type 0 where
  pub new : List (Option ℕ)
  pub capacities : List (Option ℕ)
