use Rattle.std.proofs.Common.{arith}
use Rattle.retarget_plan.proofs.Looked.{counted, flow-counted, rate-settled, stood, stood-most}
use Rattle.retarget_plan.proofs.looking.settled_rate.Goals as goal

pub overflow_cast-flow : goal.overflow_cast-flow
overflow_cast-flow c = omega (arith, c.flow_of-flow.ensures.inside, c.checked_plan_is_valid.ensures.network.flows.count)

pub stands-stage-requires : goal.stands-stage-requires
stands-stage-requires c =
    counted c.args.plan.now c.args.graph.now.rollout c.flow_of-flow.result c.requires.own (flow-counted c.args.plan.now.problem c.flow_of-flow.result c.flow_of-flow.ensures.inside)

pub rate-requires-clause-stage : goal.rate-requires-clause-stage
rate-requires-clause-stage c =
    let h = c.args.graph.now.history in
    stood-most c.args.plan.now h c.flow_of-flow.result c.stands-stage.result (stood c.args.plan.now c.args.graph.now.rollout h c.flow_of-flow.result c.stands-stage.result c.requires.own c.stands-stage.ensures)

pub returns : goal.returns
returns c =
    let h = c.args.graph.now.history in
    rate-settled c.args.plan.now h c.args.tunnel c.flow_of-flow.result c.stands-stage.result c.rate.result c.flow_of-flow.ensures.inside c.flow_of-flow.ensures.value
    (stood c.args.plan.now c.args.graph.now.rollout h c.flow_of-flow.result c.stands-stage.result c.requires.own c.stands-stage.ensures) c.rate.ensures
