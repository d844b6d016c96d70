use Rattle.std.proofs.Common.{length, ap, arith}
use Rattle.update_scheduler.specs.InFlight.{Flown}
use Rattle.update_scheduler.proofs.Placing.{long-in, long-out}
use Rattle.update_scheduler.proofs.in_flight.InFlight.take.Goals as goal

pub returns-in-Begin-clause-len : goal.returns-in-Begin-clause-len
returns-in-Begin-clause-len c = omega (arith, ap length c.put_in.ensures.ops, long-in c.in-Begin.op c.self.inside.ops.items, ap (λ (f : Flown). length f.ops) c.self.view_is)

pub returns-in-Done-clause-len : goal.returns-in-Done-clause-len
returns-in-Done-clause-len c = omega (arith, ap length c.leave_out.ensures.ops, long-out c.in-Done.op.item c.self.inside.ops.items, ap (λ (f : Flown). length f.ops) c.self.view_is)
