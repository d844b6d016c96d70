use Rattle.std.proofs.Common.{refl}
use Rattle.fenced_agent.specs.Agents.{fenced_holding}
use Rattle.agent_service.proofs.KeptRows.{come_still}
use Rattle.agent_service.proofs.Rows.{came_waited, none_waited, seat_waited}
use Rattle.agent_service.proofs.kept.keep_wake.Goals as goal

pub keep_next-requires-clause-comes : goal.keep_next-requires-clause-comes
keep_next-requires-clause-comes g c = came_waited (g.F.Fleet.told c.args.fleet.now).coming c.args.seated.now.items c.args.woken c.in-Came.is c.requires.woken

pub keep_heard-requires-clause-at : goal.keep_heard-requires-clause-at
keep_heard-requires-clause-at g c = seat_waited (g.F.Fleet.told c.args.fleet.now).coming c.args.seated.now.items c.args.woken c.in-Seat.at c.in-Seat.is c.requires.woken

pub keep_heard-requires-clause-even : goal.keep_heard-requires-clause-even
keep_heard-requires-clause-even g c = c.requires.seats.even

-- no more come, and nobody sits
pub returns-in-NoMore-clause-turn : goal.returns-in-NoMore-clause-turn
returns-in-NoMore-clause-turn g c = (refl, none_waited (g.F.Fleet.told c.args.fleet.now).coming c.args.seated.now.items c.args.woken c.in-NoMore.is c.requires.woken)

pub returns-in-NoMore-clause-any_moment : goal.returns-in-NoMore-clause-any_moment
returns-in-NoMore-clause-any_moment g c = come_still g.D.Disk.told c.args.disk.now c.args.place (fenced_holding c.args.agent.now) (g.met.D.Disk.only_now c.args.disk.now) c.requires.kept
