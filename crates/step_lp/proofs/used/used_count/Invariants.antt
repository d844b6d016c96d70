use Rattle.std.proofs.Common.{◌≡◌, ◌≤◌}
use Rattle.rollout_rules.specs.Sums.{count_below}
use Rattle.step_lp.specs.Program as program
use Rattle.step_lp.proofs.used.used_count.Given as goal

abbrev pub invariant-loop-tunnel : goal.invariant-loop-tunnel
invariant-loop-tunnel l =
    (l.count ≡ count_below l.tunnel (program.used_at l.problem)) × (l.count ≤ l.tunnel)
