use Rattle.std.proofs.Common.{◌<◌, arith}
use Rattle.rollout_rules.specs.declared.limits.TheConstants.{LARGEST_SCALE}
use Rattle.fraction_lp.specs.Divisors.{gcd-pos}
use Rattle.fraction_lp.specs.Ratio.{bottom-pos}
use Rattle.step_lp.specs.Points as points
use Rattle.step_lp.proofs.Multiples.{lcm-up, above_scale}
use Rattle.step_lp.proofs.scale.lcm.Goals as goal

pub returns-then-bottom-from : goal.returns-then-bottom-from
returns-then-bottom-from c =
    let over : LARGEST_SCALE < c.args.fraction.bottom = grind arith in
    above_scale (points.lcm c.args.scale c.args.fraction.bottom) (omega (arith, over, lcm-up c.args.scale c.args.fraction.bottom c.requires.some (bottom-pos c.args.fraction)))

pub nonzero_div-multiple : goal.nonzero_div-multiple
nonzero_div-multiple c = grind (arith, gcd-pos c.args.scale c.args.fraction.bottom (bottom-pos c.args.fraction))
