use Rattle.std.proofs.Common.{◌∙◌, Ok, Err, refl, sym, ap, arith}
use Rattle.order_policy.specs.Answers.{rank_by}
use Rattle.switch_ports.specs.Berths.{ports_of}
use Rattle.rollout_report.specs.Journals.{digest_for}
use Rattle.swanroll_top.specs.Rollouts.{fleet_of, may_end}
use Rattle.swanroll_top.proofs.Outcomes.{disk-failed, ending-follows, journal-disk, journal-may, journal-not-cut}
use Rattle.swanroll_top.proofs.rollout.roll_out_opened.Goals as goal

pub returns-in-Ok-clause-rolls : goal.returns-in-Ok-clause-rolls
returns-in-Ok-clause-rolls g c = record {
  network = c.checked_plan_is_valid.ensures.network;
  valid = c.checked_plan_is_valid.ensures.valid;
  small = omega arith;
  answer = Ok c.in-Ok.rolled.outcome;
  rolled = c.in-Ok.ensures.rolled;
  unopened = tt;
  no_port = c.in-Ok.ensures.no_port;
  follows = c.write_outcome.ensures.follows;
}

pub returns-in-Ok-clause-disk_fault : goal.returns-in-Ok-clause-disk_fault
returns-in-Ok-clause-disk_fault g c = λ e.
    disk-failed g.D.Disk.told g.F.Port.Port.told
    c.args.plan (digest_for c.args.plan c.args.limits.migration) (rank_by c.args.policy.now.answers) c.args.limits.rounds c.args.disk c.in-Ok.rolled.disk
    (ports_of (g.F.Fleet.told c.args.fleet.now)) (ports_of (g.F.Fleet.told c.run_rollout.new.fleet))
    c.in-Ok.rolled.outcome (c.write_outcome.ensures.disk e) c.in-Ok.ensures.rolled

pub returns-in-Err-clause-rolls : goal.returns-in-Err-clause-rolls
returns-in-Err-clause-rolls g c = record {
  network = c.checked_plan_is_valid.ensures.network;
  valid = c.checked_plan_is_valid.ensures.valid;
  small = omega arith;
  answer = Err c.in-Err.unopened.cause;
  rolled = tt;
  unopened = (c.in-Err.ensures.unopened, ap (λ fleet. fleet_of (g.F.Fleet.told fleet)) c.in-Err.ensures.untouched);
  no_port = tt;
  follows = ending-follows c.in-Err.unopened.cause c.from.result (g.K.Sink.told c.args.sink.now).written c.from.ensures;
}

pub returns-in-Err-clause-ends : goal.returns-in-Err-clause-ends
returns-in-Err-clause-ends g c = record { may = ap may_end c.from.ensures ∙ journal-may c.in-Err.unopened.cause; silent = λ zero seven. refl }

pub returns-in-Err-clause-write_fault : goal.returns-in-Err-clause-write_fault
returns-in-Err-clause-write_fault g c = λ e. absurd (journal-not-cut c.in-Err.unopened.cause (sym c.from.ensures ∙ e))

pub returns-in-Err-clause-disk_fault : goal.returns-in-Err-clause-disk_fault
returns-in-Err-clause-disk_fault g c = λ e. c.in-Err.ensures.unopened.failed (journal-disk c.in-Err.unopened.cause (sym c.from.ensures ∙ e))
