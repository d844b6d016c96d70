use Rattle.std.proofs.Common.{◌≡◌, true}
use Rattle.fraction_lp.specs.Excluding.{each_below, unknown_passes}
use Rattle.fraction_lp.proofs.excluding.unknowns_pass.Given as goal

abbrev pub invariant-loop-unknown : goal.invariant-loop-unknown
invariant-loop-unknown l = each_below l.unknown (unknown_passes l.rows l.multipliers) ≡ true
