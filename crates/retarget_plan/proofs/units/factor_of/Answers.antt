use Rattle.std.proofs.Common.{ℕ, ap, ◌∙◌, arith}
use Rattle.std.specs.Prelude.{◌/◌}
use Rattle.retarget_plan.proofs.Divisors.{quotient-le}
use Rattle.retarget_plan.proofs.units.factor_of.Goals as goal

pub returns-clause-value : goal.returns-clause-value
returns-clause-value c = ap (λ (n : ℕ). n / c.args.divisor) (c.from-scale.ensures ∙ c.scale_of.ensures.value)

pub returns-clause-most : goal.returns-clause-most
returns-clause-most c = omega (arith, quotient-le c.from-scale.result c.args.divisor c.requires, c.from-scale.ensures, c.scale_of.ensures.most)
