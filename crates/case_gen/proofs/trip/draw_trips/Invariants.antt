use Rattle.std.proofs.Common.{◌≡◌, ◌*◌}
use Rattle.case_gen.specs.Draws.{after_draws}
use Rattle.case_gen.specs.Trips.{trips_drawn}
use Rattle.case_gen.proofs.trip.draw_trips.Given as goal

abbrev pub invariant-loop-flow : goal.invariant-loop-flow
invariant-loop-flow l = (l.trips.items ≡ trips_drawn l.fn.draws l.switches l._flow) × (l.draws ≡ after_draws l.fn.draws (6 * l._flow))
