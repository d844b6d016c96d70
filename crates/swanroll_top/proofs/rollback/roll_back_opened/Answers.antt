use Rattle.std.proofs.Common.{◌∙◌, refl, sym, ap, inl, inr}
use Rattle.swanroll_top.specs.Rollouts.{fleet_of, may_end}
use Rattle.swanroll_top.proofs.Outcomes.{journal-may, journal-not-cut}
use Rattle.swanroll_top.proofs.Reverting.{levels-rose, none-rose}
use Rattle.swanroll_top.proofs.rollback.roll_back_opened.Goals as goal

pub close-requires-clause-start : goal.close-requires-clause-start
close-requires-clause-start g c = c.in-Ok.ensures.start

pub returns-in-Ok-clause-rolls : goal.returns-in-Ok-clause-rolls
returns-in-Ok-clause-rolls g c = record {
  network = c.checked_plan_is_valid.ensures.network;
  valid = c.checked_plan_is_valid.ensures.valid;
  small = c.requires;
  ends = inl (record {
    levelled = c.in-Ok.levelled.disk;
    answer = c.in-Ok.levelled.answer;
    has = c.in-Ok.ensures.levelled;
    no_port = c.in-Ok.ensures.no_port;
    closes = c.close.ensures.closes;
  });
}

pub returns-in-Ok-clause-disk_fault : goal.returns-in-Ok-clause-disk_fault
returns-in-Ok-clause-disk_fault g c = λ e.
    levels-rose g.D.Disk.told g.F.Port.Port.told
    c.args.plan c.args.origin c.args.limits c.args.disk c.close.result.disk
    (fleet_of (g.F.Fleet.told c.args.fleet.now)) (fleet_of (g.F.Fleet.told c.run_levelling.new.fleet))
    c.close.result.ending _ _ e
    (record {
      levelled = c.in-Ok.levelled.disk;
      answer = c.in-Ok.levelled.answer;
      has = c.in-Ok.ensures.levelled;
      no_port = c.in-Ok.ensures.no_port;
      closes = c.close.ensures.closes;
    })

pub returns-in-Err-clause-rolls : goal.returns-in-Err-clause-rolls
returns-in-Err-clause-rolls g c = record {
  network = c.checked_plan_is_valid.ensures.network;
  valid = c.checked_plan_is_valid.ensures.valid;
  small = c.requires;
  ends = inr (record {
    cause = c.in-Err.unopened.cause;
    left = c.in-Err.ensures.left;
    is = c.from.ensures;
    fleet_is = ap (λ fleet. fleet_of (g.F.Fleet.told fleet)) c.in-Err.ensures.untouched;
    silent = refl;
  });
}

pub returns-in-Err-clause-ends : goal.returns-in-Err-clause-ends
returns-in-Err-clause-ends g c = record { may = ap may_end c.from.ensures ∙ journal-may c.in-Err.unopened.cause; silent = λ zero seven. refl }

pub returns-in-Err-clause-write_fault : goal.returns-in-Err-clause-write_fault
returns-in-Err-clause-write_fault g c = λ e. absurd (journal-not-cut c.in-Err.unopened.cause (sym c.from.ensures ∙ e))

pub returns-in-Err-clause-disk_fault : goal.returns-in-Err-clause-disk_fault
returns-in-Err-clause-disk_fault g c = λ e.
    none-rose g.D.Disk.told g.F.Port.Port.told
    c.args.plan c.args.origin c.args.limits c.args.disk c.in-Err.unopened.disk
    (fleet_of (g.F.Fleet.told c.args.fleet.now)) (fleet_of (g.F.Fleet.told c.run_levelling.new.fleet))
    c.from.result (g.K.Sink.told c.args.sink.now).written (g.K.Sink.told c.args.sink.now).written e
    (record {
      cause = c.in-Err.unopened.cause;
      left = c.in-Err.ensures.left;
      is = c.from.ensures;
      fleet_is = ap (λ fleet. fleet_of (g.F.Fleet.told fleet)) c.in-Err.ensures.untouched;
      silent = refl;
    })
