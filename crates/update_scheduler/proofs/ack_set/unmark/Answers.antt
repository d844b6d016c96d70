use Rattle.update_scheduler.proofs.Marking.{left-inside}
use Rattle.update_scheduler.proofs.ack_set.unmark.Goals as goal

pub bounds-marks-item : goal.bounds-marks-item
bounds-marks-item c = left-inside c.loop-item.marks c.args.row.now c.loop-item.item-index 0 c.loop-item-test.true c.loop-item.invariant.0
