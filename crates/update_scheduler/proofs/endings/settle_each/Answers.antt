use Rattle.std.proofs.Common.{arith}
use Rattle.update_scheduler.proofs.Settling.{can-settle, item-inside}
use Rattle.update_scheduler.proofs.endings.settle_each.Goals as goal

pub settle-requires-clause-item : goal.settle-requires-clause-item
settle-requires-clause-item c =
    item-inside c.args.graph.now c.loop-item.graph c.args.batch.now.items c.loop-item.batch.items c.args.items.now c.loop-item.item-index 0 c.loop-item.invariant.0 c.loop-item-test.true c.requires.items

pub settle-requires-clause-flying : goal.settle-requires-clause-flying
settle-requires-clause-flying c =
    can-settle c.args.graph.now c.loop-item.graph c.args.batch.now.items c.loop-item.batch.items c.args.items.now c.loop-item.item-index 0 c.loop-item.invariant.0 c.loop-item-test.true

pub settle-requires-clause-room : goal.settle-requires-clause-room
settle-requires-clause-room c =
    omega (arith, c.loop-item.invariant.0.few, c.loop-item.invariant.1, c.loop-item-test.true, c.requires.room, c.loop-item.batch.ok.0, c.args.batch.now.ok.0)
