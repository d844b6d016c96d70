use Rattle.std.proofs.Common.{◌∙◌, ap}
use Rattle.switch_agent.specs.Items.{Items}
use Rattle.fenced_agent.specs.Agents.{FencedItems, fenced_holding}
use Rattle.agent_service.proofs.KeptRows.{opened_run, served_run}
use Rattle.agent_service.proofs.kept.keep_guests.Goals as goal

abbrev at_floor_0 : Items → FencedItems
at_floor_0 items = record { floor = 0; items = items }

-- an agent that is new holds nothing
pub open_state-requires : goal.open_state-requires
open_state-requires g c = ap fenced_holding (c.new-agent.ensures ∙ ap at_floor_0 c.new-plain.ensures)

pub returns-in_err-place-clause-any_moment : goal.returns-in_err-place-clause-any_moment
returns-in_err-place-clause-any_moment g c = opened_run g.D.Disk.told (g.D.Disk.told c.args.disk.now).bytes c.args.disk.now c.open_state.new.disk (g.D.Disk.told c.args.disk.now).may_leave c.open_state.ensures.any_moment

pub returns-in_err-service-clause-any_moment : goal.returns-in_err-service-clause-any_moment
returns-in_err-service-clause-any_moment g c =
    served_run g.D.Disk.told (g.D.Disk.told c.args.disk.now).bytes (g.D.Disk.told c.open_state.new.disk).bytes c.args.disk.now c.open_state.new.disk c.keep_all.new.disk (g.D.Disk.told c.args.disk.now).may_leave (fenced_holding c.open_state.new.agent)
    c.open_state.ensures.told (g.met.D.Disk.shows_one c.open_state.new.disk) (g.met.D.Disk.counts_now c.open_state.new.disk) c.in_ok-place.ensures.found c.open_state.ensures.any_moment c.keep_all.ensures.any_moment

pub returns-clause-any_moment : goal.returns-clause-any_moment
returns-clause-any_moment g c =
    served_run g.D.Disk.told (g.D.Disk.told c.args.disk.now).bytes (g.D.Disk.told c.open_state.new.disk).bytes c.args.disk.now c.open_state.new.disk c.keep_all.new.disk (g.D.Disk.told c.args.disk.now).may_leave (fenced_holding c.open_state.new.agent)
    c.open_state.ensures.told (g.met.D.Disk.shows_one c.open_state.new.disk) (g.met.D.Disk.counts_now c.open_state.new.disk) c.in_ok-place.ensures.found c.open_state.ensures.any_moment c.keep_all.ensures.any_moment

pub returns-clause-keeps : goal.returns-clause-keeps
returns-clause-keeps g c = record { items = c.open_state.new.agent; found = c.in_ok-place.ensures.found; keeps = c.in_ok-service.ensures.keeps }
