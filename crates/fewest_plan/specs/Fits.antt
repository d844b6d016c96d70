-- SWAN's test on a rate step of the rule, and where a flow is stopped.
use Rattle.std.specs.Prelude.{ℕ, ◌+◌, ◌*◌, ◌<◌, ◌≤◌, List, length}
use Rattle.rollout_rules.specs.Wan.{Problem, link_at}
use Rattle.fewest_plan.specs.Growth.{growth}
use Rattle.fewest_plan.specs.Greedy.{top}

-- each link carries the larger of the rates before and after the step
pub record Fits (p : Problem) (d : ℕ) (before after : List ℕ) : Type 0 where
  pub each : (l : ℕ) → l < length p.links → top p d before after l ≤ (link_at p l).capacity * d

-- a link that would not carry one part more of a flow's way
pub record IsFull (p : Problem) (d : ℕ) (before after : List ℕ) (f l : ℕ) : Type 0 where
  pub known : l < length p.links
  pub grows : 0 < growth p f l
  pub full : (link_at p l).capacity * d < top p d before after l + growth p f l
