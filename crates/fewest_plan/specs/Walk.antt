-- The plan of the greedy rule: rate steps until all flows stand at the end of their way.
use Rattle.std.specs.Prelude.{ℕ, zero, suc, ◌+◌, Bool, List, length, slice_index, replicate, Option, Some, None, option_map, ◌==◌}
use Rattle.rollout_rules.specs.Sums.{list_below, all_below}
use Rattle.rollout_rules.specs.Wan.{Problem, Plan}
use Rattle.plan_check.specs.First.{first_below, provided}
use Rattle.scratch_plan.specs.Frame.{frame}
use Rattle.plan_choose.specs.Choice.{Choice, where_valid}
use Rattle.fewest_plan.specs.Greedy.{step, row_after}

-- all flows at the beginning of their way
abbrev pub at_first : Problem → List ℕ
at_first p = replicate (length p.flows) 0

-- the shares after so many rate steps
unfoldable pub shares_after : Problem → ℕ → List ℕ → ℕ → List ℕ
shares_after p d order zero = at_first p
shares_after p d order (suc n) = step p d order (shares_after p d order n)

-- whether all flows stand at the end of their way
abbrev pub have_arrived : Problem → ℕ → List ℕ → Bool
have_arrived p d shares = all_below (length p.flows) (λ f. slice_index shares f == d)

-- a number of rate steps less one, where all flows have arrived after these steps
abbrev pub arrives : Problem → ℕ → List ℕ → ℕ → Option ℕ
arrives p d order i = provided (have_arrived p d (shares_after p d order (i + 1))) i

-- the least such number with at most so many rate steps
abbrev pub arrival : Problem → ℕ → List ℕ → ℕ → Option ℕ
arrival p d order most = first_below most (arrives p d order)

-- the rates after each of the first i rate steps
abbrev pub rows_to : Problem → ℕ → List ℕ → ℕ → List (List ℕ)
rows_to p d order i = list_below i (λ k. row_after p d (shares_after p d order (k + 1)))

-- a plan of so many rate steps, where it is valid
abbrev pub accepted : Problem → ℕ → Plan → Option Choice
accepted p rate_steps plan = option_map (λ found. record { plan = found; rate_steps = rate_steps }) (where_valid p (Some plan))

-- over the rates between, of which there is one row less than rate steps
abbrev pub walked : Problem → ℕ → List ℕ → Option ℕ → Option Choice
walked p d order None = None
walked p d order (Some i) = accepted p (i + 1) (frame p d (rows_to p d order i))

-- the plan of the rule with the flows in this order and shares in parts of 1/d, where all arrive within so many rate steps
unfoldable pub greedy : Problem → ℕ → List ℕ → ℕ → Option Choice
greedy p d order most = walked p d order (arrival p d order most)
