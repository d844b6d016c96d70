use Rattle.std.proofs.Common.{◌≡◌, Some}
use Rattle.fraction_lp.specs.Excluding.{multiplier_at, entry_at, added_to}
use Rattle.fraction_lp.proofs.excluding.column_sum.Given as goal

abbrev pub invariant-loop-i : goal.invariant-loop-i
invariant-loop-i l = added_to l.i (multiplier_at l.multipliers) (entry_at l.column l.rows) ≡ Some l.sum
