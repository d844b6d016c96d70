use Rattle.std.proofs.Common.{◌≡◌, length, arith}
use Rattle.retarget_plan.specs.Left.{scaled_capacity}
use Rattle.retarget_plan.proofs.Found.{list-all, list-next}
use Rattle.retarget_plan.proofs.rows.left_capacities.Goals as goal

pub loop-link-preserved : goal.loop-link-preserved
loop-link-preserved c = list-next (scaled_capacity c.args.plan.now.problem c.args.factor) c.loop-link.link c.loop-link.capacities _ c.scaled_capacity-capacity.result c.loop-link.invariant c.scaled_capacity-capacity.ensures c.in_ok-push.ensures.ok

pub returns : goal.returns
returns c =
    let all : c.loop-link.link ≡ length c.args.plan.now.problem.links = omega (arith, c.link_total-link-end.ensures.value) in
    list-all (scaled_capacity c.args.plan.now.problem c.args.factor) c.loop-link.link (length c.args.plan.now.problem.links) c.loop-link.capacities all c.loop-link.invariant
