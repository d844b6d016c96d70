use Rattle.std.proofs.Common.{◌≡◌, ◌<◌, true, slice_index, ap, subst, arith}
use Rattle.std.proofs.lemmas.Bool.{lt-leb}
use Rattle.rollout_rules.specs.Sums.{all_below}
use Rattle.rollout_rules.specs.Wan.{Rollout}
use Rattle.rollout_rules.specs.Items.{item_count}
use Rattle.dependency_graph.specs.Graph.{count_of}
use Rattle.dependency_graph.specs.Soundness.{has_settled}
use Rattle.dependency_graph.proofs.soundness.first_above.Goals as goal

pub returns-then-settled-operations : goal.returns-then-settled-operations
returns-then-settled-operations c =
    let r = c.args.plan.now in
    let n = c.loop-item.item in
    let inside : n < item_count r.problem = omega (arith, c.item_count-item-end.ensures, c.loop-item-test.true, ap (λ (q : Rollout). item_count q.problem) c.requires) in
    let above = lt-leb (slice_index c.args.progress.now.settled n) (count_of r n) (omega (arith, c.if-settled-operations.true, c.settled.ensures, c.operations.ensures, ap (λ (q : Rollout). count_of q n) c.requires)) in
    record { there = inside; fails = above; before = c.loop-item.invariant }

pub returns : goal.returns
returns c =
    let r = c.args.plan.now in
    let end : c.loop-item.item ≡ item_count r.problem = omega (arith, c.item_count-item-end.ensures, c.loop-item-test.false, c.loop-item.auto.item-end, ap (λ (q : Rollout). item_count q.problem) c.requires) in
    subst (λ n. all_below n (has_settled r c.args.progress.now) ≡ true) end c.loop-item.invariant
