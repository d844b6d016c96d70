-- What a plan's shape says of its stages.
use Rattle.std.specs.Prelude.{◌≡◌, ℕ, ◌+◌, ◌<◌, ◌≤◌, length}
use Rattle.rollout_rules.specs.Wan.{Problem, Plan, stage_at, last_stage}
use Rattle.rollout_rules.specs.declared.limits.TheConstants.{MOST_STAGES, LARGEST_SCALE}

-- there is a stage, the scale and the number of stages are within their limits, and each stage has a rate and a mark per tunnel
pub record IsShaped (p : Problem) (plan : Plan) : Type 0 where
  pub some : last_stage plan + 1 ≡ length plan.stages
  pub few : last_stage plan < MOST_STAGES
  pub scale : plan.scale ≤ LARGEST_SCALE
  pub rates : (s : ℕ) → s < length plan.stages → length (stage_at plan s).rates ≡ length p.tunnels
  pub marks : (s : ℕ) → s < length plan.stages → length (stage_at plan s).installed ≡ length p.tunnels
