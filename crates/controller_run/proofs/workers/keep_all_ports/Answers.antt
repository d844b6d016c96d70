use Rattle.switch_ports.specs.Berths.{ports_of}
use Rattle.controller_run.proofs.Dealing.{crews_apart, crews_lent, kept_all, own_apart, own_lent, spare_apart, spare_lent}
use Rattle.controller_run.proofs.workers.keep_all_ports.Goals as goal

pub keep_workers-requires-clause-apart : goal.keep_workers-requires-clause-apart
keep_workers-requires-clause-apart g c = crews_apart c.args.team.own.ports c.args.team.own.spare.items c.args.team.crews.items c.requires.apart

pub keep_workers-requires-clause-lent : goal.keep_workers-requires-clause-lent
keep_workers-requires-clause-lent g c = crews_lent c.args.team.own.ports c.args.team.own.spare.items c.args.team.crews.items c.requires.apart (ports_of (g.F.Fleet.told c.args.fleet.now)) c.requires.lent

pub keep_ports-requires-clause-apart : goal.keep_ports-requires-clause-apart
keep_ports-requires-clause-apart g c = spare_apart c.args.team.own.ports c.args.team.own.spare.items c.args.team.crews.items c.requires.apart

pub keep_ports-requires-clause-lent : goal.keep_ports-requires-clause-lent
keep_ports-requires-clause-lent g c =
    spare_lent c.args.team.own.ports c.args.team.own.spare.items c.args.team.crews.items c.requires.apart (ports_of (g.F.Fleet.told c.args.fleet.now)) c.requires.lent
    (ports_of (g.F.Fleet.told c.keep_workers.new.fleet)) c.keep_workers.ensures.ports

pub keep_worker-requires-clause-apart : goal.keep_worker-requires-clause-apart
keep_worker-requires-clause-apart g c = own_apart c.args.team.own.ports c.args.team.own.spare.items c.args.team.crews.items c.requires.apart

pub keep_worker-requires-clause-lent : goal.keep_worker-requires-clause-lent
keep_worker-requires-clause-lent g c =
    own_lent c.args.team.own.ports c.args.team.own.spare.items c.args.team.crews.items c.requires.apart (ports_of (g.F.Fleet.told c.args.fleet.now)) c.requires.lent
    (ports_of (g.F.Fleet.told c.keep_workers.new.fleet)) c.keep_workers.ensures.ports (ports_of (g.F.Fleet.told c.keep_ports.new.fleet)) c.keep_ports.ensures.ports

pub returns-clause-ports : goal.returns-clause-ports
returns-clause-ports g c =
    kept_all c.args.team.own.ports c.args.team.own.spare.items c.args.team.crews.items c.requires.apart (ports_of (g.F.Fleet.told c.args.fleet.now)) c.requires.lent
    (ports_of (g.F.Fleet.told c.keep_workers.new.fleet)) c.keep_workers.ensures.ports (ports_of (g.F.Fleet.told c.keep_ports.new.fleet)) c.keep_ports.ensures.ports
    (ports_of (g.F.Fleet.told c.keep_worker.new.fleet)) c.keep_worker.ensures.ports
