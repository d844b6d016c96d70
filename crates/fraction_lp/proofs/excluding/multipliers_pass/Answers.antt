use Rattle.std.proofs.Common.{◌≡◌, ◌<◌, false, length, sym, arith}
use Rattle.fraction_lp.specs.Excluding.{multiplier_passes}
use Rattle.fraction_lp.proofs.Excluded.{each_below_stops}
use Rattle.fraction_lp.proofs.excluding.multipliers_pass.Goals as goal

pub returns-then-not-multiplier_passes : goal.returns-then-not-multiplier_passes
returns-then-not-multiplier_passes c =
    let ys = c.args.multipliers.now in
    let inside : c.loop-i.i < length ys = grind arith in
    let fails : multiplier_passes ys c.loop-i.i ≡ false = cc in
    sym (each_below_stops (multiplier_passes ys) (length ys) c.loop-i.i inside fails)
