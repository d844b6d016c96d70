use Rattle.std.proofs.Common.{◌≡◌}
use Rattle.step_lp.specs.Program as program
use Rattle.step_lp.proofs.row.coefficients.Given as goal

abbrev pub invariant-loop-block : goal.invariant-loop-block
invariant-loop-block l =
    l.row ≡ program.joined_below l.block (program.coefficients_in l.problem l.q l.limit)
