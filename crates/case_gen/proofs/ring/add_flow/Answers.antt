use Rattle.std.proofs.Common.{◌≡◌, ◌*◌, ◌++◌, length, codes, decimal, sym, ap, subst, ◌∙◌}
use Rattle.rollout_rules.specs.Building.{with_tunnel, MayAddTunnel}
use Rattle.case_gen.specs.Rings.{walk}
use Rattle.case_gen.specs.Trips.{Trip}
use Rattle.case_gen.specs.contracts.trip.Trip.{the_view}
use Rattle.case_gen.proofs.Fresh.{flow_count, may_flow}
use Rattle.case_gen.proofs.Flows.{flow_added, may_double, may_single}
use Rattle.case_gen.proofs.ring.add_flow.Goals as goal

pub add_flow-requires : goal.add_flow-requires
add_flow-requires c = may_flow c.args.number c.requires.few c.args.problem.now c.requires.flows c.deref.result.now (c.deref.ensures ∙ c.in_ok-name.ensures.ok)

pub add_tunnel-requires : goal.add_tunnel-requires
add_tunnel-requires c =
    let count : length c.args.problem.now.flows ≡ c.args.number = flow_count c.args.number c.requires.few c.args.problem.now c.requires.flows in
    let named : c.deref.result.now ≡ codes "f" ++ decimal c.args.number = c.deref.ensures ∙ c.in_ok-name.ensures.ok in
    let goes : c.as_slice.result.now ≡ walk c.args.switches c.args.trip.now.start 1 (2 * c.args.trip.now.steps) = c.as_slice.ensures ∙ c.in_ok-single.ensures ∙ ap (λ (t : Trip). walk c.args.switches t.start 1 (2 * t.steps)) (ap the_view c.trip-inside.view_is ∙ c.trip.view_is) in
    subst (λ (t : Trip). MayAddTunnel c.add_flow.new.self c.as_slice.result.now t.first.old t.first.new 1) (sym (ap the_view c.trip-inside.view_is ∙ c.trip.view_is))
    (may_single c.args.switches c.args.number c.args.problem.now c.args.trip.now c.requires.ring c.requires.few count c.requires.tunnels c.requires.trip
    c.deref.result.now c.add_flow.new.self named c.in_ok-add_flow.ensures.ok c.as_slice.result.now goes)

pub add_tunnel-requires-2 : goal.add_tunnel-requires-2
add_tunnel-requires-2 c =
    let count : length c.args.problem.now.flows ≡ c.args.number = flow_count c.args.number c.requires.few c.args.problem.now c.requires.flows in
    let named : c.deref.result.now ≡ codes "f" ++ decimal c.args.number = c.deref.ensures ∙ c.in_ok-name.ensures.ok in
    let goes : c.as_slice.result.now ≡ walk c.args.switches c.args.trip.now.start 1 (2 * c.args.trip.now.steps) = c.as_slice.ensures ∙ c.in_ok-single.ensures ∙ ap (λ (t : Trip). walk c.args.switches t.start 1 (2 * t.steps)) (ap the_view c.trip-inside.view_is ∙ c.trip.view_is) in
    let two : c.add_tunnel.new.self ≡ with_tunnel c.add_flow.new.self c.as_slice.result.now c.args.trip.now.first.old c.args.trip.now.first.new 1 =
    c.in_ok-add_tunnel.ensures.ok ∙ ap (λ (t : Trip). with_tunnel c.add_flow.new.self c.as_slice.result.now t.first.old t.first.new 1) (ap the_view c.trip-inside.view_is ∙ c.trip.view_is) in
    let leads : c.as_slice-2.result.now ≡ walk c.args.switches c.args.trip.now.start 2 c.args.trip.now.steps = c.as_slice-2.ensures ∙ c.in_ok-double.ensures ∙ ap (λ (t : Trip). walk c.args.switches t.start 2 t.steps) (ap the_view c.trip-inside.view_is ∙ c.trip.view_is) in
    subst (λ (t : Trip). MayAddTunnel c.add_tunnel.new.self c.as_slice-2.result.now t.second.old t.second.new 1) (sym (ap the_view c.trip-inside.view_is ∙ c.trip.view_is))
    (may_double c.args.switches c.args.number c.args.problem.now c.args.trip.now c.requires.ring c.requires.few count c.requires.tunnels c.requires.trip
    c.deref.result.now c.add_flow.new.self named c.in_ok-add_flow.ensures.ok c.as_slice.result.now goes c.add_tunnel.new.self two c.as_slice-2.result.now leads)

pub returns : goal.returns
returns c =
    let count : length c.args.problem.now.flows ≡ c.args.number = flow_count c.args.number c.requires.few c.args.problem.now c.requires.flows in
    let named : c.deref.result.now ≡ codes "f" ++ decimal c.args.number = c.deref.ensures ∙ c.in_ok-name.ensures.ok in
    let goes : c.as_slice.result.now ≡ walk c.args.switches c.args.trip.now.start 1 (2 * c.args.trip.now.steps) = c.as_slice.ensures ∙ c.in_ok-single.ensures ∙ ap (λ (t : Trip). walk c.args.switches t.start 1 (2 * t.steps)) (ap the_view c.trip-inside.view_is ∙ c.trip.view_is) in
    let two : c.add_tunnel.new.self ≡ with_tunnel c.add_flow.new.self c.as_slice.result.now c.args.trip.now.first.old c.args.trip.now.first.new 1 =
    c.in_ok-add_tunnel.ensures.ok ∙ ap (λ (t : Trip). with_tunnel c.add_flow.new.self c.as_slice.result.now t.first.old t.first.new 1) (ap the_view c.trip-inside.view_is ∙ c.trip.view_is) in
    let leads : c.as_slice-2.result.now ≡ walk c.args.switches c.args.trip.now.start 2 c.args.trip.now.steps = c.as_slice-2.ensures ∙ c.in_ok-double.ensures ∙ ap (λ (t : Trip). walk c.args.switches t.start 2 t.steps) (ap the_view c.trip-inside.view_is ∙ c.trip.view_is) in
    let three : c.add_tunnel-2.new.self ≡ with_tunnel c.add_tunnel.new.self c.as_slice-2.result.now c.args.trip.now.second.old c.args.trip.now.second.new 1 =
    c.in_ok-add_tunnel-2.ensures.ok ∙ ap (λ (t : Trip). with_tunnel c.add_tunnel.new.self c.as_slice-2.result.now t.second.old t.second.new 1) (ap the_view c.trip-inside.view_is ∙ c.trip.view_is) in
    flow_added c.args.switches c.args.number c.args.problem.now c.args.trip.now c.requires.ring c.requires.few count c.requires.tunnels c.requires.trip
    c.deref.result.now c.add_flow.new.self named c.in_ok-add_flow.ensures.ok c.as_slice.result.now goes c.add_tunnel.new.self two c.as_slice-2.result.now leads c.add_tunnel-2.new.self three
