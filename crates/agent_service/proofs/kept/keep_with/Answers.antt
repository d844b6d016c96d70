use Rattle.std.proofs.Common.{arith}
use Rattle.agent_service.specs.Services.{guests_of}
use Rattle.fenced_agent.specs.Agents.{fenced_holding}
use Rattle.agent_service.proofs.KeptRows.{come_still, kept_cause_until, seats_left}
use Rattle.agent_service.proofs.kept.keep_with.Goals as goal

-- the fleet knows of each guest that sits
pub keep_seated-requires : goal.keep_seated-requires
keep_seated-requires g c = omega (arith, c.keep_each-answer.ensures.visiting)

pub returns-in-Ok-clause-keeps : goal.returns-in-Ok-clause-keeps
returns-in-Ok-clause-keeps g c =
    let each = c.keep_each-answer in
    seats_left g.D.Disk.told (record { source = g.F.Guest.Source.told; sink = g.F.Guest.Sink.told }) c.args.agent.now each.new.agent each.new.disk (guests_of (g.F.Fleet.told c.args.fleet.now)) (guests_of (g.F.Fleet.told each.new.fleet))
    (guests_of (g.F.Fleet.told c.keep_seated.new.fleet)) c.args.guests each.new.seated.items each.result c.keep_seated.ensures.coming c.keep_seated.ensures.back each.ensures.keeps each.ensures.durable

pub returns-in-Ok-clause-visiting : goal.returns-in-Ok-clause-visiting
returns-in-Ok-clause-visiting g c = omega (arith, c.keep_seated.ensures.visiting, c.keep_each-answer.ensures.visiting)

pub returns-in-Ok-clause-cause : goal.returns-in-Ok-clause-cause
returns-in-Ok-clause-cause g c =
    kept_cause_until c.keep_each-answer.result (g.F.Fleet.told c.args.fleet.now).faults (g.F.Fleet.told c.keep_each-answer.new.fleet).faults (g.F.Fleet.told c.keep_seated.new.fleet).faults (g.D.Disk.told c.args.disk.now).faults (g.D.Disk.told c.keep_each-answer.new.disk).faults
    c.keep_seated.ensures.count c.keep_each-answer.ensures.cause

-- no memory was found for the seats: the disk is as it was
pub returns-in-Err-clause-any_moment : goal.returns-in-Err-clause-any_moment
returns-in-Err-clause-any_moment g c = come_still g.D.Disk.told c.args.disk.now c.args.place (fenced_holding c.args.agent.now) (g.met.D.Disk.only_now c.args.disk.now) c.requires.kept
