use Rattle.std.proofs.Common.{◌≡◌, map, take}
use Rattle.step_lp.specs.Program as program
use Rattle.step_lp.proofs.building.build.Given as goal

abbrev pub invariant-loop-limit : goal.invariant-loop-limit
invariant-loop-limit l =
    l.rows ≡ record { unknowns = program.unknowns l.problem l.q; rows = map (program.row_of l.problem l.q) (take l.limit-index l.limit-items) }
