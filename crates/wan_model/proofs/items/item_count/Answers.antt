use Rattle.std.proofs.Common.{◌+◌, ◌≤◌, length, arith}
use Rattle.wan_model.proofs.Counted.{first-few, first-next}
use Rattle.wan_model.proofs.items.item_count.Goals as goal

pub overflow_add-count : goal.overflow_add-count
overflow_add-count c =
    let p = c.args.problem.now in
    let t = c.loop-t.t in
    let below : t + 1 ≤ length p.tunnels = grind arith in
    omega (arith, c.loop-t.invariant, c.hops-count.ensures.value, first-next p t, first-few p (t + 1) c.tunnels-t-end.ensures.network below)

pub loop-t-preserved : goal.loop-t-preserved
loop-t-preserved c =
    let p = c.args.problem.now in
    let t = c.loop-t.t in
    omega (arith, c.loop-t.invariant, c.hops-count.ensures.value, first-next p t)
