use Rattle.fewest_plan.proofs.Chosen.{none-why}
use Rattle.fewest_plan.proofs.choosing.cause_of_none.Goals as goal

pub returns : goal.returns
returns c = none-why c.args.problem.now c.args.cause c.in_ok-stuck.stuck c.why_none.result c.in_ok-stuck.ensures c.why_none.ensures
