use Rattle.std.proofs.Common.{◌≡◌, ◌++◌}
use Rattle.step_lp.specs.Program as program
use Rattle.step_lp.proofs.limits.add_tops_in.Given as goal

abbrev pub invariant-loop-tunnel : goal.invariant-loop-tunnel
invariant-loop-tunnel l =
    l.limits ≡ l.initial.limits ++ program.joined_below l.tunnel (program.tops_at l.problem l.step)
