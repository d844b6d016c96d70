use Rattle.std.proofs.Common.{◌∙◌, Ok, Err, refl, sym, ap, arith}
use Rattle.swanroll_top.specs.Rollouts.{fleet_of, may_end}
use Rattle.swanroll_top.proofs.DrainEnds.{drained-failed, drained-out}
use Rattle.swanroll_top.proofs.Outcomes.{ending-follows, journal-disk, journal-may, journal-not-cut}
use Rattle.swanroll_top.proofs.drain.drain_opened.Goals as goal

pub returns-in-Ok-clause-rolls : goal.returns-in-Ok-clause-rolls
returns-in-Ok-clause-rolls g c =
    drained-out g.D.Disk.told g.F.Port.Port.told
    c.args.plan c.args.limits c.args.disk c.in-Ok.drained.disk
    (fleet_of (g.F.Fleet.told c.args.fleet.now)) (fleet_of (g.F.Fleet.told c.run_draining.new.fleet))
    c.checked_plan_is_valid.ensures.network c.checked_plan_is_valid.ensures.valid (omega arith) (Ok c.in-Ok.drained.outcome)
    c.write_drained.result (g.K.Sink.told c.args.sink.now).written (g.K.Sink.told c.write_drained.new.sink).written
    c.in-Ok.ensures.drained tt c.in-Ok.ensures.no_port c.write_drained.ensures.follows

pub returns-in-Ok-clause-disk_fault : goal.returns-in-Ok-clause-disk_fault
returns-in-Ok-clause-disk_fault g c = λ e.
    drained-failed g.D.Disk.told g.F.Port.Port.told
    c.args.plan c.args.limits c.args.disk c.in-Ok.drained.disk
    (fleet_of (g.F.Fleet.told c.args.fleet.now)) (fleet_of (g.F.Fleet.told c.run_draining.new.fleet))
    c.in-Ok.drained.outcome (c.write_drained.ensures.disk e) c.in-Ok.ensures.drained

pub returns-in-Err-clause-rolls : goal.returns-in-Err-clause-rolls
returns-in-Err-clause-rolls g c =
    drained-out g.D.Disk.told g.F.Port.Port.told
    c.args.plan c.args.limits c.args.disk c.in-Err.unopened.disk
    (fleet_of (g.F.Fleet.told c.args.fleet.now)) (fleet_of (g.F.Fleet.told c.run_draining.new.fleet))
    c.checked_plan_is_valid.ensures.network c.checked_plan_is_valid.ensures.valid (omega arith) (Err c.in-Err.unopened.cause)
    c.from.result (g.K.Sink.told c.args.sink.now).written (g.K.Sink.told c.args.sink.now).written
    tt (c.in-Err.ensures.unopened, ap (λ fleet. fleet_of (g.F.Fleet.told fleet)) c.in-Err.ensures.untouched) tt
    (ending-follows c.in-Err.unopened.cause c.from.result (g.K.Sink.told c.args.sink.now).written c.from.ensures)

pub returns-in-Err-clause-ends : goal.returns-in-Err-clause-ends
returns-in-Err-clause-ends g c = record { may = ap may_end c.from.ensures ∙ journal-may c.in-Err.unopened.cause; silent = λ zero seven. refl }

pub returns-in-Err-clause-write_fault : goal.returns-in-Err-clause-write_fault
returns-in-Err-clause-write_fault g c = λ e. absurd (journal-not-cut c.in-Err.unopened.cause (sym c.from.ensures ∙ e))

pub returns-in-Err-clause-disk_fault : goal.returns-in-Err-clause-disk_fault
returns-in-Err-clause-disk_fault g c = λ e. c.in-Err.ensures.unopened.failed (journal-disk c.in-Err.unopened.cause (sym c.from.ensures ∙ e))
