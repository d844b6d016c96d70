use Rattle.std.proofs.Common.{◌≡◌, true}
use Rattle.fraction_lp.specs.Excluding.{each_below, multiplier_passes}
use Rattle.fraction_lp.proofs.excluding.multipliers_pass.Given as goal

abbrev pub invariant-loop-i : goal.invariant-loop-i
invariant-loop-i l = each_below l.i (multiplier_passes l.multipliers) ≡ true
