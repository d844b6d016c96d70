use Rattle.std.proofs.Common.{◌≡◌, ◌+◌, arith}
use Rattle.rollout_rules.specs.Wan.{flow_at}
use Rattle.dependency_graph.proofs.Chained.{flow-is, flow-few}
use Rattle.dependency_graph.proofs.longest.flow_chain.Goals as goal

pub overflow_add-result : goal.overflow_add-result
overflow_add-result c =
    let p = c.args.plan.now.problem in
    let plan = c.args.plan.now.plan in
    let valid = c.checked_plan_is_valid.ensures.valid in
    let end : c.loop-j.j ≡ (flow_at p c.args.f).tunnels = omega (arith, c.tunnel_count-j-end.ensures.value, c.loop-j-test.false, c.loop-j.auto.j-end) in
    let is = flow-is p plan c.args.f c.args.s c.loop-j.j c.args.own c.loop-j.most c.checked_plan_is_valid.ensures.network valid c.requires.flow end c.requires.own c.loop-j.invariant in
    omega (arith, flow-few p plan c.args.f c.args.s (c.loop-j.most + 1) valid is)

pub returns : goal.returns
returns c =
    let p = c.args.plan.now.problem in
    let plan = c.args.plan.now.plan in
    let valid = c.checked_plan_is_valid.ensures.valid in
    let end : c.loop-j.j ≡ (flow_at p c.args.f).tunnels = omega (arith, c.tunnel_count-j-end.ensures.value, c.loop-j-test.false, c.loop-j.auto.j-end) in
    flow-is p plan c.args.f c.args.s c.loop-j.j c.args.own c.loop-j.most c.checked_plan_is_valid.ensures.network valid c.requires.flow end c.requires.own c.loop-j.invariant
