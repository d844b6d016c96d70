use Rattle.std.proofs.Common.{◌≡◌, ◌++◌}
use Rattle.step_lp.specs.Program as program
use Rattle.step_lp.proofs.limits.add_totals_at.Given as goal

abbrev pub invariant-loop-flow : goal.invariant-loop-flow
invariant-loop-flow l =
    l.limits ≡ l.initial.limits ++ program.joined_below l.flow (program.totals_of l.stage)
