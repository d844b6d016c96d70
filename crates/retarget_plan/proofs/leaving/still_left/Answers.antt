use Rattle.retarget_plan.proofs.Found.{flying-passed, flying-told}
use Rattle.retarget_plan.proofs.leaving.still_left.Goals as goal

pub returns-in-Some : goal.returns-in-Some
returns-in-Some c = flying-told c.args.plan.now c.args.graph.now.rollout c.args.graph.now.history c.requires c.in-Some.cause c.in-Some.ensures

pub returns-in-None : goal.returns-in-None
returns-in-None c = flying-passed c.args.plan.now c.args.graph.now.rollout c.args.graph.now.history c.requires c.whole_left.result c.in-None.ensures c.whole_left.ensures
