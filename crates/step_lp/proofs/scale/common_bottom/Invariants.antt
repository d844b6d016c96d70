use Rattle.std.proofs.Common.{◌≡◌, ◌<◌, ◌≤◌, drop}
use Rattle.step_lp.specs.Points as points
use Rattle.rollout_rules.specs.declared.limits.TheConstants.{LARGEST_SCALE}
use Rattle.step_lp.proofs.scale.common_bottom.Given as goal

abbrev pub invariant-loop-fraction : goal.invariant-loop-fraction
invariant-loop-fraction l =
    (0 < l.common) × (l.common ≤ LARGEST_SCALE) × (points.common_bottom 1 l.fractions ≡ points.common_bottom l.common (drop l.fraction-index l.fractions))
