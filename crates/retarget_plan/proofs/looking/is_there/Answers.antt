use Rattle.retarget_plan.proofs.Looked.{counted, mark-stood, stood, stood-most}
use Rattle.retarget_plan.proofs.looking.is_there.Goals as goal

pub stands-stage-requires : goal.stands-stage-requires
stands-stage-requires c = counted c.args.plan.now c.args.graph.now.rollout c.args.number c.requires.own c.requires.number

pub mark-requires-clause-stage : goal.mark-requires-clause-stage
mark-requires-clause-stage c =
    let h = c.args.graph.now.history in
    stood-most c.args.plan.now h c.args.number c.stands-stage.result (stood c.args.plan.now c.args.graph.now.rollout h c.args.number c.stands-stage.result c.requires.own c.stands-stage.ensures)

pub returns : goal.returns
returns c =
    let h = c.args.graph.now.history in
    mark-stood c.args.plan.now h c.args.number c.args.tunnel c.stands-stage.result c.mark.result (stood c.args.plan.now c.args.graph.now.rollout h c.args.number c.stands-stage.result c.requires.own c.stands-stage.ensures) c.mark.ensures
