use Rattle.std.proofs.Common.{◌≡◌}
use Rattle.measure.proofs.program.read.Given as goal

abbrev pub invariant-loop-line : goal.invariant-loop-line
invariant-loop-line l = l.rows.unknowns ≡ l.unknowns
