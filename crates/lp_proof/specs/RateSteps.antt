-- The rate steps of a plan, and that no plan takes fewer than so many.
use Rattle.std.specs.Prelude.{◌≡◌, ℕ, ◌+◌, ◌<◌, ◌≤◌, Bool, false, not, ◌==◌, length, IsTrue}
use Rattle.rollout_rules.specs.Sums.{all_below, count_below}
use Rattle.rollout_rules.specs.Wan.{Problem, Plan, rate_at, last_stage}
use Rattle.rollout_rules.specs.Valid.{is_valid_plan}
use Rattle.step_lp.specs.Program.{used_at}

-- whether a tunnel has the same rate at the stage after
abbrev pub stays_at : Plan → ℕ → ℕ → Bool
stays_at plan s t = rate_at plan s t == rate_at plan (s + 1) t

-- whether the step from stage s on is a rate step: some rate differs
abbrev pub moves_rates : Problem → Plan → ℕ → Bool
moves_rates p plan s = not (all_below (length p.tunnels) (stays_at plan s))

-- how many rate steps lead up to stage s, and to the last
abbrev pub rate_steps_to : Problem → Plan → ℕ → ℕ
rate_steps_to p plan s = count_below s (moves_rates p plan)

abbrev pub rate_steps : Problem → Plan → ℕ
rate_steps p plan = rate_steps_to p plan (last_stage plan)

-- a tunnel that is neither wanted nor carrying at first has rate 0 at every stage
abbrev pub LeavesAtRest : Problem → Plan → Type 0
LeavesAtRest p plan = (s t : ℕ) → s < length plan.stages → t < length p.tunnels → used_at p t ≡ false → rate_at plan s t ≡ 0

-- no valid plan takes fewer than q rate steps, at any scale, among those that leave such tunnels at rest
abbrev pub TakesAtLeast : Problem → ℕ → Type 0
TakesAtLeast p q = (plan : Plan) → IsTrue (is_valid_plan p plan) → LeavesAtRest p plan → q ≤ rate_steps p plan
