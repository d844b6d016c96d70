-- The plans and the shapes of the worked trials: k 4 and seed 7.
use Rattle.std.specs.Prelude.{ℕ, [], ◌∷◌, true}
use Rattle.rollout_rules.specs.Wan.{Plan}
use Rattle.rollout_rules.specs.declared.op.OpView.{OpView}
use Rattle.sim_run.specs.declared.shape.Shape.{Shape}

-- the plan of a problem without flows
abbrev pub still_plan : Plan
still_plan = record { scale = 1; stages = record { rates = []; installed = [] } ∷ [] }

-- the plan of one flow over two tunnels, which moves in one step
abbrev pub direct_plan : Plan
direct_plan = record {
  scale = 1;
  stages =
      record { rates = 769 ∷ 990 ∷ []; installed = true ∷ true ∷ [] }
      ∷ record { rates = 789 ∷ 909 ∷ []; installed = true ∷ true ∷ [] } ∷ [];
}

-- a policy that prefers no operation
abbrev pub as_they_come : OpView → ℕ
as_they_come v = 0

abbrev pub trial_shape : ℕ → ℕ → ℕ → Shape
trial_shape switches flows events = record { k = 4; switches = switches; flows = flows; seed = 7; events = events }
