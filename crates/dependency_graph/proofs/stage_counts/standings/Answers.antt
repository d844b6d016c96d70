use Rattle.std.proofs.Common.{◌<◌, ◌+◌, length, refl, ap, slice_index, arith}
use Rattle.dependency_graph.proofs.Elements.{read_from}
use Rattle.dependency_graph.proofs.StageCounts.{standings-more, standings-few}
use Rattle.dependency_graph.proofs.stage_counts.standings.Goals as goal

pub overflow_add-index_mut : goal.overflow_add-index_mut
overflow_add-index_mut c =
    let stages = c.args.stages.now in
    let counts = c.loop-item.counts.items in
    let n = c.loop-item.item in
    let low = c.requires.within n c.loop-item-test.true in
    let inside : slice_index stages n < length counts = omega (arith, low, c.loop-item.invariant.all) in
    let read = read_from counts counts (slice_index stages n) c.index_mut.result.now 0 refl inside c.index_mut.ensures.value in
    omega (arith, read, standings-few c.args.last stages counts n (slice_index stages n) low c.loop-item.invariant, c.requires.few, c.loop-item-test.true)

pub loop-item-preserved : goal.loop-item-preserved
loop-item-preserved c =
    let stages = c.args.stages.now in
    let counts = c.loop-item.counts.items in
    let n = c.loop-item.item in
    let low = c.requires.within n c.loop-item-test.true in
    let inside : slice_index stages n < length counts = omega (arith, low, c.loop-item.invariant.all) in
    let read = read_from counts counts (slice_index stages n) c.index_mut.result.now 0 refl inside c.index_mut.ensures.value in
    standings-more c.args.last stages counts n (c.index_mut.result.now + 1) low c.loop-item.invariant (ap (λ x. x + 1) read)
