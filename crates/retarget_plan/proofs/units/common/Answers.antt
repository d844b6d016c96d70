use Rattle.std.proofs.Common.{◌<◌, ap₂, ◌∙◌, arith}
use Rattle.fraction_lp.specs.Divisors.{gcd, gcd-le}
use Rattle.retarget_plan.proofs.units.common.Goals as goal

pub overflow_cast-result : goal.overflow_cast-result
overflow_cast-result c =
    let some : 0 < c.from-other.result = omega (arith, c.from-other.ensures, c.requires) in
    omega (arith, c.greatest_common_divisor-most.ensures, c.from-other.ensures, gcd-le c.from-one.result c.from-other.result some)

pub returns : goal.returns
returns c = c.greatest_common_divisor-most.ensures ∙ ap₂ gcd c.from-one.ensures c.from-other.ensures
