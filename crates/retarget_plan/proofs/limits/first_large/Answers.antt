use Rattle.retarget_plan.specs.Leaving.{first_of_old, first_rate}
use Rattle.retarget_plan.specs.declared.unleft.Row.TheVariants.{NewRates}
use Rattle.retarget_plan.proofs.Found.{first-is, first-passed}
use Rattle.retarget_plan.proofs.limits.first_large.Goals as goal

pub returns-in-Some : goal.returns-in-Some
returns-in-Some c = first-is (first_of_old c.args.capacities.now c.args.old.now) (first_rate NewRates c.args.new.now) c.in-Some.cause c.in-Some.ensures

pub returns-in-None : goal.returns-in-None
returns-in-None c = first-passed (first_of_old c.args.capacities.now c.args.old.now) (first_rate NewRates c.args.new.now) c.first_rate.result c.in-None.ensures c.first_rate.ensures
