use Rattle.std.proofs.Common.{◌≡◌, subst, arith}
use Rattle.rollout_rules.specs.Wan.{flow_at}
use Rattle.dependency_graph.specs.Touched.{AreGathered}
use Rattle.dependency_graph.proofs.Gathered.{gathered-start}
use Rattle.dependency_graph.proofs.flow_row.gather.Goals as goal

pub loop-j-init : goal.loop-j-init
loop-j-init c = gathered-start c.args.plan.now.problem c.args.f c.args.links.now c.args.scratch.now.items c.requires.links c.requires.scratch

pub returns : goal.returns
returns c =
    let p = c.args.plan.now.problem in
    let all : c.loop-j.j ≡ (flow_at p c.args.f).tunnels = omega (arith, c.tunnel_count-j-end.ensures.value, c.loop-j-test.false, c.loop-j.auto.j-end) in
    subst (λ n. AreGathered p c.args.f n 0 c.loop-j.links c.loop-j.scratch.items) all c.loop-j.invariant
