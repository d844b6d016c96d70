use Rattle.fewest_plan.proofs.Chosen.{beside-told, beside-valid, in_place-told, in_place-valid}
use Rattle.fewest_plan.proofs.choosing.fewest_for.Goals as goal

pub returns-in-Ok-clause-value : goal.returns-in-Ok-clause-value
returns-in-Ok-clause-value c = beside-told c.args.problem.now c.in-Ok.chosen c.beside.result c.in-Ok.ensures.value c.beside.ensures

pub returns-in-Ok-clause-valid : goal.returns-in-Ok-clause-valid
returns-in-Ok-clause-valid c = beside-valid c.args.problem.now c.in-Ok.chosen c.beside.result c.in-Ok.ensures.valid c.beside.ensures

pub returns-clause-value : goal.returns-clause-value
returns-clause-value c = in_place-told c.args.problem.now c.in-Err.cause c.in_place.result c.in-Err.ensures.value c.in_place.ensures

pub returns-clause-valid : goal.returns-clause-valid
returns-clause-valid c = in_place-valid c.args.problem.now c.in-Err.cause c.in_place.result c.in_place.ensures
