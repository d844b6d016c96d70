use Rattle.std.proofs.Common.{◌≡◌, true, sym, subst}
use Rattle.rollout_rules.specs.Network.{IsNetwork}
use Rattle.rollout_rules.specs.Valid.{is_valid_plan}
use Rattle.rollout_rules.specs.Wan.{Rollout}
use Rattle.switch_ports.specs.Berths.{ports_of}
use Rattle.rollout_report.specs.Journals.{digest_for}
use Rattle.controller_run.proofs.RolloutEnds.{migration-is}
use Rattle.rollback_service.proofs.Levellings.{levelled-from, start-is}
use Rattle.rollback_service.proofs.levelling.run_levelling.Goals as goal

pub returns-in-Ok-clause-levelled : goal.returns-in-Ok-clause-levelled
returns-in-Ok-clause-levelled g c =
    levelled-from g.D.Disk.told g.F.Port.Port.told
    c.args.origin c.args.plan (digest_for c.args.plan c.args.limits.migration) c.args.limits.migration c.args.limits.rounds c.args.disk c.in-Ok.chronicle
    (ports_of (g.F.Fleet.told c.args.fleet.now)) (ports_of (g.F.Fleet.told c.level.new.fleet)) c.level.result.disk c.level.result.answer
    (migration-is c.args.plan c.args.limits.migration) c.in-Ok.ensures.opened c.in-Ok.ensures.book c.level.ensures.levelled

pub returns-in-Ok-clause-start : goal.returns-in-Ok-clause-start
returns-in-Ok-clause-start g c =
    let same = c.in-Ok.ensures.opened.rollout in
    start-is g.D.Disk.told g.F.Port.Port.told
    c.args.origin c.args.limits.migration c.args.limits.rounds c.in-Ok.chronicle
    (ports_of (g.F.Fleet.told c.args.fleet.now)) (ports_of (g.F.Fleet.told c.level.new.fleet)) c.level.result.disk c.level.result.answer
    (subst (λ (r : Rollout). IsNetwork r.problem) (sym same) c.checked_plan_is_valid.ensures.network) (subst (λ (r : Rollout). is_valid_plan r.problem r.plan ≡ true) (sym same) c.checked_plan_is_valid.ensures.valid)
    c.in-Ok.ensures.book c.level.ensures.levelled
