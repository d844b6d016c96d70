use Rattle.retarget_plan.specs.Leaving.{first_capacity, first_rate}
use Rattle.retarget_plan.specs.declared.unleft.Row.TheVariants.{OldRates}
use Rattle.retarget_plan.proofs.Found.{first-is, first-passed}
use Rattle.retarget_plan.proofs.limits.first_of_old.Goals as goal

pub returns-in-Some : goal.returns-in-Some
returns-in-Some c = first-is (first_capacity c.args.capacities.now) (first_rate OldRates c.args.old.now) c.in-Some.cause c.in-Some.ensures

pub returns-in-None : goal.returns-in-None
returns-in-None c = first-passed (first_capacity c.args.capacities.now) (first_rate OldRates c.args.old.now) c.first_rate.result c.in-None.ensures c.first_rate.ensures
