use Rattle.std.proofs.Common.{[], ◌∙◌, ap, refl, subst, inl}
use Rattle.wan_edge.specs.Streams.{Rose}
use Rattle.switch_agent.specs.Items.{Items}
use Rattle.fenced_agent.specs.Agents.{FencedItems}
use Rattle.agent_service.specs.Services.{ServesBy, first_table, guests_of, no_items}
use Rattle.agent_service.proofs.Rows.{fleet_cause}
use Rattle.agent_service.proofs.guests.serve_guests.Goals as goal

abbrev at_floor_0 : Items → FencedItems
at_floor_0 items = record { floor = 0; items = items }

-- an agent that is new holds nothing
pub returns-in-Ok-clause-served : goal.returns-in-Ok-clause-served
returns-in-Ok-clause-served g c =
    subst (λ (items : FencedItems). ServesBy (record { source = g.F.Guest.Source.told; sink = g.F.Guest.Sink.told }) items (guests_of (g.F.Fleet.told c.args.fleet.now))
    (guests_of (g.F.Fleet.told c.serve_with.new.fleet)) c.args.guests c.serve_with.result) (c.new-agent.ensures ∙ ap at_floor_0 c.new-plain.ensures) c.serve_with.ensures.served

pub returns-in-Ok-clause-cause : goal.returns-in-Ok-clause-cause
returns-in-Ok-clause-cause g c = fleet_cause c.serve_with.result (Rose (g.F.Fleet.told c.args.fleet.now).faults (g.F.Fleet.told c.serve_with.new.fleet).faults) c.serve_with.ensures.cause

-- no memory was found for the seats
pub returns-clause-served : goal.returns-clause-served
returns-clause-served g c =
    let first = first_table no_items (guests_of (g.F.Fleet.told c.args.fleet.now)) in
    record { course = []; end = first; last = first; goes = refl; ends = inl (refl, refl); coming = refl; back = refl }
