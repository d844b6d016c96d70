use Rattle.std.proofs.Common.{◌≡◌, sym, ap, ◌∙◌, subst, arith, length}
use Rattle.rollout_rules.specs.Sums.{sum_below}
use Rattle.rollout_rules.specs.Wan.{Rollout}
use Rattle.dependency_graph.specs.Index.{IsTable, place_at}
use Rattle.dependency_graph.specs.Ahead.{width_share}
use Rattle.dependency_graph.proofs.Touched.{room-places}
use Rattle.dependency_graph.proofs.progress.room.entries.Goals as goal

pub returns : goal.returns
returns c =
    let r = c.args.plan.now in
    let row = c.table-place-items.result.now in
    let same : c.lookup.result.now ≡ r = c.lookup.ensures ∙ sym c.requires.own in
    let so = subst (λ (q : Rollout). IsTable q.problem c.args.w (length q.problem.tunnels) 0 row) same c.table-place-items.ensures in
    let all : c.loop-place.place-index ≡ length row = omega arith in
    c.loop-place.invariant.value
    ∙ ap (λ n. sum_below n (λ j. width_share r c.args.progress.now c.args.ahead.now c.args.op c.args.s (place_at row j).tunnel (place_at row j).item)) all
    ∙ room-places r c.args.progress.now c.args.ahead.now c.args.op c.args.s c.args.w row so
