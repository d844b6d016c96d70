use Rattle.std.proofs.Common.{arith}
use Rattle.retarget_plan.specs.Left.{remade}
use Rattle.retarget_plan.specs.Leaving.{first_large}
use Rattle.retarget_plan.proofs.Found.{cause-is, none-unless}
use Rattle.retarget_plan.proofs.leaving.make_problem.Goals as goal

pub first_large-requires-clause-capacities : goal.first_large-requires-clause-capacities
first_large-requires-clause-capacities c = omega (arith, c.requires.for_links, c.checked_plan_is_valid.ensures.network.links.count)

pub first_large-requires-clause-old : goal.first_large-requires-clause-old
first_large-requires-clause-old c = omega (arith, c.requires.were, c.checked_plan_is_valid.ensures.network.few)

pub first_large-requires-clause-new : goal.first_large-requires-clause-new
first_large-requires-clause-new c = omega (arith, c.requires.become, c.checked_plan_is_valid.ensures.network.few)

pub returns-in-Some : goal.returns-in-Some
returns-in-Some c = cause-is c.in-Some.cause (first_large c.args.capacities.now c.args.old.now c.args.new.now) c.in-Some.ensures

pub returns-in-None : goal.returns-in-None
returns-in-None c =
    none-unless (first_large c.args.capacities.now c.args.old.now c.args.new.now) (remade c.args.plan.now.problem c.args.capacities.now c.args.old.now c.args.new.now) c.copy_problem.result c.in-None.ensures c.copy_problem.ensures
