use Rattle.std.proofs.Common.{◌≡◌, ◌≤◌, ◌+◌}
use Rattle.step_lp.specs.Points as points
use Rattle.step_lp.specs.Program as program
use Rattle.rollout_rules.specs.Sums.{list_below, count_below}
use Rattle.step_lp.proofs.planning.rate_row.Given as goal

abbrev pub invariant-loop-tunnel : goal.invariant-loop-tunnel
invariant-loop-tunnel l =
    (l.row ≡ list_below l.tunnel (λ t. points.units_of l.scale (points.rate_from l.problem l.point l.first t))) × (l.place ≡ l.first + count_below l.tunnel (program.used_at l.problem)) × (l.place ≤ l.first + l.tunnel)
