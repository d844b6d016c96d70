use Rattle.std.proofs.Common.{◌≡◌, length, arith}
use Rattle.retarget_plan.specs.Left.{scaled_target}
use Rattle.retarget_plan.proofs.Found.{list-all, list-next}
use Rattle.retarget_plan.proofs.rows.left_targets.Goals as goal

pub loop-tunnel-preserved : goal.loop-tunnel-preserved
loop-tunnel-preserved c = list-next (scaled_target c.args.plan.now.problem c.args.factor) c.loop-tunnel.tunnel c.loop-tunnel.rates _ c.scaled_target-rate.result c.loop-tunnel.invariant c.scaled_target-rate.ensures c.in_ok-push.ensures.ok

pub returns : goal.returns
returns c =
    let all : c.loop-tunnel.tunnel ≡ length c.args.plan.now.problem.tunnels = omega (arith, c.tunnel_total-tunnel-end.ensures.value) in
    list-all (scaled_target c.args.plan.now.problem c.args.factor) c.loop-tunnel.tunnel (length c.args.plan.now.problem.tunnels) c.loop-tunnel.rates all c.loop-tunnel.invariant
