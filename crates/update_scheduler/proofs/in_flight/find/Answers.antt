use Rattle.std.proofs.Common.{◌∙◌, arith, sym}
use Rattle.update_scheduler.proofs.Batches.{flying-left}
use Rattle.update_scheduler.proofs.in_flight.find.Goals as goal

pub next_op-requires-clause-left : goal.next_op-requires-clause-left
next_op-requires-clause-left c =
    let g = c.args.graph.now in
    flying-left g.rollout.problem g.rollout.plan g.history c.requires.legal c.loop-item.item (omega (arith, c.loop-item-test.true, c.requires.own)) (sym c.flying.ensures ∙ c.if-flying.true)
