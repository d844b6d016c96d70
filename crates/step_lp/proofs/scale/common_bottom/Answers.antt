use Rattle.std.proofs.Common.{◌∙◌}
use Rattle.step_lp.specs.Points as points
use Rattle.step_lp.proofs.Multiples.{stops_above, goes_on_below}
use Rattle.step_lp.proofs.scale.common_bottom.Goals as goal

pub returns-in_err-common : goal.returns-in_err-common
returns-in_err-common c =
    c.from_residual.ensures
    ∙ stops_above (points.common_bottom 1 c.args.fractions.now) c.loop-fraction.common c.args.fractions.now c.loop-fraction.fraction-index c.fraction-item.result _
    c.fraction-item.is c.loop-fraction.invariant.0 c.loop-fraction-test.true c.loop-fraction.invariant.2 c.in_err-common.ensures

pub loop-fraction-preserved : goal.loop-fraction-preserved
loop-fraction-preserved c =
    goes_on_below (points.common_bottom 1 c.args.fractions.now) c.loop-fraction.common c.in_ok-common.common c.args.fractions.now c.loop-fraction.fraction-index c.fraction-item.result _
    c.fraction-item.is c.loop-fraction.invariant.0 c.loop-fraction-test.true c.loop-fraction.invariant.2 c.in_ok-common.ensures
