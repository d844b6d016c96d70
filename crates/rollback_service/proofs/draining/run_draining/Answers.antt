use Rattle.std.proofs.Common.{arith}
use Rattle.switch_ports.specs.Berths.{ports_of}
use Rattle.rollout_report.specs.Journals.{digest_for}
use Rattle.controller_run.proofs.RolloutEnds.{migration-is}
use Rattle.rollback_service.proofs.Drainings.{drained-from}
use Rattle.rollback_service.proofs.draining.run_draining.Goals as goal

pub returns-in-Ok-clause-drained : goal.returns-in-Ok-clause-drained
returns-in-Ok-clause-drained g c =
    drained-from g.D.Disk.told g.F.Port.Port.told
    c.args.plan (digest_for c.args.plan c.args.limits.migration) _ c.args.limits.migration c.args.limits.rounds c.args.disk c.in-Ok.chronicle
    (ports_of (g.F.Fleet.told c.args.fleet.now)) (ports_of (g.F.Fleet.told c.run_from.new.fleet)) c.run_from.result.disk c.run_from.result.outcome
    (omega arith) (migration-is c.args.plan c.args.limits.migration) c.in-Ok.ensures.opened c.in-Ok.ensures.book c.run_from.ensures.run
