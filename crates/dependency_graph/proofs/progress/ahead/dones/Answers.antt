use Rattle.std.proofs.Common.{◌+◌, ◌<◌, sym, ap, ap₂, ◌∙◌, arith, length}
use Rattle.dependency_graph.proofs.Standings.{dones-next, byte_is, one_if, one_small}
use Rattle.dependency_graph.proofs.progress.ahead.dones.Goals as goal

pub loop-entry-preserved : goal.loop-entry-preserved
loop-entry-preserved c =
    let k = c.loop-entry.entry-index in
    let es = c.args.entries.now in
    let lt : k < length es = grind arith in
    let one = c.from-count.ensures ∙ byte_is c.settles.result in
    record {
      value = ap₂ (λ a b. a + b) c.loop-entry.invariant.value (one ∙ ap one_if c.settles.ensures) ∙ sym (dones-next es k c.args.item _ lt);
      few = omega (arith, one, one_small c.settles.result, c.loop-entry.invariant.few);
    }
