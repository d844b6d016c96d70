use Rattle.update_scheduler.proofs.Ordered.{sorted-order}
use Rattle.update_scheduler.proofs.order.put_in_order.Goals as goal

pub returns-clause-order : goal.returns-clause-order
returns-clause-order c rank ns is =
    sorted-order rank ns c.args.candidates.now.items c.sort.new.candidates.items c.sort.ensures.permutation c.sort.ensures.sorted is
