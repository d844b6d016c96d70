use Rattle.retarget_plan.proofs.Aimings.{aimed-passed, aimed-told}
use Rattle.retarget_plan.proofs.aiming.still_aimed.Goals as goal

pub returns-in-Some : goal.returns-in-Some
returns-in-Some c = aimed-told c.args.plan.now c.args.graph.now.rollout c.args.graph.now.history c.args.aim.now c.requires.own c.in-Some.cause c.in-Some.ensures

pub returns-in-None : goal.returns-in-None
returns-in-None c = aimed-passed c.args.plan.now c.args.graph.now.rollout c.args.graph.now.history c.args.aim.now c.requires.own c.whole_aimed.result c.in-None.ensures c.whole_aimed.ensures
