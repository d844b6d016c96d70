use Rattle.std.proofs.Common.{◌≡◌, ap, subst, sym, arith}
use Rattle.std.proofs.lemmas.List.{get_or_read}
use Rattle.rollout_rules.specs.Wan.{Problem}
use Rattle.case_gen.specs.Conditions.{IsTrip}
use Rattle.case_gen.specs.Rings.{trip_at}
use Rattle.case_gen.specs.Trips.{no_trip}
use Rattle.case_gen.proofs.Flows.{flow_more, flows_at_first, ring_so_far, tunnels_so_far}
use Rattle.case_gen.proofs.ring.add_flows.Goals as goal

pub loop-number-init : goal.loop-number-init
loop-number-init c = flows_at_first c.args.switches c.args.trips.now c.args.problem.now c.requires.no_flows c.requires.no_tunnels

pub add_flow-requires : goal.add_flow-requires
add_flow-requires c =
    let at : c.index-trips-number.result ≡ trip_at c.args.trips.now c.loop-number.number = get_or_read c.args.trips.now c.loop-number.number c.index-trips-number.result c.loop-number-test.true c.index-trips-number.is no_trip in
    record {
      ring = ring_so_far c.args.switches c.loop-number.number c.args.trips.now c.index-trips-number.result c.args.problem.now c.loop-number.problem at c.loop-number.invariant c.requires.ring;
      few = omega (arith, c.loop-number-test.true, c.requires.trips.few);
      flows = ap (λ (p : Problem). p.flows) c.loop-number.invariant;
      tunnels = tunnels_so_far c.args.switches c.loop-number.number c.args.trips.now c.index-trips-number.result c.args.problem.now c.loop-number.problem at c.loop-number.invariant;
      trip = subst (IsTrip c.args.switches) (sym at) (c.requires.trips.each c.loop-number.number c.loop-number-test.true);
    }

pub loop-number-preserved : goal.loop-number-preserved
loop-number-preserved c =
    let at : c.index-trips-number.result ≡ trip_at c.args.trips.now c.loop-number.number = get_or_read c.args.trips.now c.loop-number.number c.index-trips-number.result c.loop-number-test.true c.index-trips-number.is no_trip in
    flow_more c.args.switches c.loop-number.number c.args.trips.now c.index-trips-number.result c.args.problem.now c.loop-number.problem at c.loop-number.invariant c.add_flow.new.problem c.in_ok-add_flow.ensures
