use Rattle.std.proofs.Common.{sym, subst, arith}
use Rattle.update_scheduler.specs.InFlight.{items_of}
use Rattle.update_scheduler.specs.Rows.{Rises}
use Rattle.update_scheduler.proofs.Flying.{flown-up}
use Rattle.update_scheduler.proofs.in_flight.InFlight.new.Goals as goal

pub invariant_of-result : goal.invariant_of-result
invariant_of-result c =
    let g = c.args.graph.now in
    (omega (arith, c.find.ensures.capacity, c.in_ok-ops.ensures.capacity), subst (λ ops. Rises (items_of ops)) (sym c.find.ensures.ops) (flown-up g.rollout.problem g.history))
