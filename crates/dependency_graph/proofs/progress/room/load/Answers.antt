use Rattle.std.proofs.Common.{◌≡◌, sym, ap, ◌∙◌, subst, arith, length, slice_index}
use Rattle.rollout_rules.specs.Sums.{sum_below}
use Rattle.rollout_rules.specs.Wan.{Rollout}
use Rattle.dependency_graph.specs.Index.{IsCrossing}
use Rattle.dependency_graph.specs.Ahead.{rate_share}
use Rattle.dependency_graph.proofs.Touched.{room-crossing}
use Rattle.dependency_graph.proofs.progress.room.load.Goals as goal

pub returns : goal.returns
returns c =
    let r = c.args.plan.now in
    let row = c.crossing-tunnel-items.result.now in
    let same : c.lookup.result.now ≡ r = c.lookup.ensures ∙ sym c.requires.own in
    let so = subst (λ (q : Rollout). IsCrossing q.problem c.args.l (length q.problem.tunnels) row) same c.crossing-tunnel-items.ensures in
    let all : c.loop-tunnel.tunnel-index ≡ length row = omega arith in
    c.loop-tunnel.invariant.value
    ∙ ap (λ n. sum_below n (λ j. rate_share r c.args.progress.now c.args.ahead.now c.args.op c.args.s (slice_index row j))) all
    ∙ room-crossing r c.args.progress.now c.args.ahead.now c.args.op c.args.s c.args.l row c.requires.network so
