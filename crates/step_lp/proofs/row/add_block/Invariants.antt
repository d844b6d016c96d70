use Rattle.std.proofs.Common.{◌≡◌, ◌++◌, map, take}
use Rattle.step_lp.specs.Program as program
use Rattle.step_lp.proofs.row.add_block.Given as goal

abbrev pub invariant-loop-tunnel : goal.invariant-loop-tunnel
invariant-loop-tunnel l =
    l.row ≡ l.initial.row ++ map (program.coefficient l.problem l.q l.limit l.block) (take l.tunnel-index l.used)
