use Rattle.std.proofs.Common.{◌<◌, ◌∙◌, slice_index, sym, arith, ne_eqb, ◌==◌}
use Rattle.rollout_rules.specs.Items.{item_count, item_at}
use Rattle.rollout_rules.specs.Operations.{operations}
use Rattle.rollout_rules.proofs.Below.{all_below_stops}
use Rattle.dependency_graph.proofs.progress.all_settled.Goals as goal

pub returns-then-settled-operations : goal.returns-then-settled-operations
returns-then-settled-operations c =
    let r = c.args.progress.now.rollout in
    let n = c.loop-item.item in
    let inside : n < item_count r.problem = omega (arith, c.item_count-item-end.ensures) in
    let fails = ne_eqb (slice_index c.args.progress.now.settled n) (operations r.problem r.plan (item_at r.problem n)) (λ q. c.if-settled-operations.true (c.settled.ensures ∙ q ∙ sym c.operations.ensures)) in
    sym (all_below_stops (λ k. slice_index c.args.progress.now.settled k == operations r.problem r.plan (item_at r.problem k)) (item_count r.problem) n inside fails)
