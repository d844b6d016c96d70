-- The plans whose text can be read again.
use Rattle.std.specs.Prelude.{ℕ, ◌<◌, ◌≤◌, length, slice_index}
use Rattle.rollout_rules.specs.Wan.{Plan, Stage, stage_at}
use Rattle.rollout_rules.specs.declared.limits.TheConstants.{MOST_TUNNELS, MOST_STAGES, LARGEST_SCALE, LARGEST_PLAN_RATE}

-- a stage of lists and rates that the grammar reads
pub record IsStageWithin (s : Stage) : Type 0 where
  pub marks : length s.installed ≤ MOST_TUNNELS
  pub rates : length s.rates ≤ MOST_TUNNELS
  pub each : (t : ℕ) → t < length s.rates → slice_index s.rates t ≤ LARGEST_PLAN_RATE

-- a plan of such stages, and of a scale that the grammar reads
pub record IsPlanWithin (plan : Plan) : Type 0 where
  pub scale : plan.scale ≤ LARGEST_SCALE
  pub count : length plan.stages ≤ MOST_STAGES
  pub each : (s : ℕ) → s < length plan.stages → IsStageWithin (stage_at plan s)
