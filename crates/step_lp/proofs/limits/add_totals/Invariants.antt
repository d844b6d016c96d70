use Rattle.std.proofs.Common.{◌≡◌, ◌+◌, ◌++◌, length}
use Rattle.step_lp.specs.Program as program
use Rattle.step_lp.proofs.limits.add_totals.Given as goal

abbrev pub invariant-loop-block : goal.invariant-loop-block
invariant-loop-block l =
    l.limits ≡ l.initial.limits ++ program.joined_below l.block (λ b. program.joined_below (length l.problem.flows) (program.totals_of (b + 1)))
