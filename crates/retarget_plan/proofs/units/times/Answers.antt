use Rattle.std.proofs.Common.{◌≤◌, arith, subst}
use Rattle.std.proofs.lemmas.Nat.{mul-le}
use Rattle.rollout_rules.specs.declared.limits.TheConstants.{LARGEST_RATE, LARGEST_SCALE}
use Rattle.rollout_rules.specs.Network.{IsRate}
use Rattle.retarget_plan.proofs.units.times.Goals as goal

pub overflow_mul-product : goal.overflow_mul-product
overflow_mul-product c =
    let few : c.in-Some.number ≤ LARGEST_RATE = subst IsRate c.in-Some.is c.requires.rate in
    omega (arith, mul-le c.in-Some.number c.args.factor LARGEST_RATE LARGEST_SCALE few c.requires.factor)
