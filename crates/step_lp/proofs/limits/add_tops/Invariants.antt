use Rattle.std.proofs.Common.{◌≡◌, ◌++◌, length}
use Rattle.step_lp.specs.Program as program
use Rattle.step_lp.proofs.limits.add_tops.Given as goal

abbrev pub invariant-loop-step : goal.invariant-loop-step
invariant-loop-step l =
    l.limits ≡ l.initial.limits ++ program.joined_below l.step (λ s. program.joined_below (length l.problem.tunnels) (program.tops_at l.problem s))
