use Rattle.std.proofs.Common.{◌≡◌, ◌<◌, false, sym, arith}
use Rattle.fraction_lp.specs.Excluding.{unknown_passes}
use Rattle.fraction_lp.proofs.Excluded.{each_below_stops}
use Rattle.fraction_lp.proofs.excluding.unknowns_pass.Goals as goal

pub returns-then-not-unknown_passes : goal.returns-then-not-unknown_passes
returns-then-not-unknown_passes c =
    let rows = c.args.rows.now in
    let ys = c.args.multipliers.now in
    let inside : c.loop-unknown.unknown < c.args.unknowns = grind arith in
    let fails : unknown_passes rows ys c.loop-unknown.unknown ≡ false = cc in
    sym (each_below_stops (unknown_passes rows ys) c.args.unknowns c.loop-unknown.unknown inside fails)
