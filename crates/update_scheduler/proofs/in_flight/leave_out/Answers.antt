use Rattle.std.proofs.Common.{sym, subst}
use Rattle.update_scheduler.specs.InFlight.{items_of}
use Rattle.update_scheduler.specs.Rows.{Rises}
use Rattle.update_scheduler.proofs.Placing.{gone, rises-out}
use Rattle.update_scheduler.proofs.in_flight.leave_out.Goals as goal

pub returns-then-place-len-clause-rises : goal.returns-then-place-len-clause-rises
returns-then-place-len-clause-rises c =
    let place = c.place_of-place in
    let is = gone c.args.item place.result c.args.ops.now.items c.deref.result.now c.remove.new.self.items c.deref.ensures.value c.remove.ensures.items place.ensures.front place.ensures.rest in
    subst (λ ops. Rises (items_of ops)) (sym is) (rises-out c.args.item c.args.ops.now.items c.requires.rises)
