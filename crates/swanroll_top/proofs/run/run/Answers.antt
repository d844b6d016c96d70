use Rattle.std.proofs.Common.{◌≡◌, true, false, refl, sym, ap, ◌∙◌, subst}
use Rattle.text_commands.specs.CommandEnds.{tells_place}
use Rattle.swanroll_top.specs.Tries.{IsAskedShape}
use Rattle.swanroll_top.specs.Words.{asked}
use Rattle.swanroll_top.proofs.Promises.{ran-as, same-guests, same-ports}
use Rattle.swanroll_top.proofs.run.run.Goals as goal

pub returns-in-Text : goal.returns-in-Text
returns-in-Text g c = ran-as _ _ _ _ _ _ (ap asked c.in-Text.is) (record {
  brings = c.run_text.ensures.runs;
  read_fault = c.run_text.ensures.read_fault;
  write_fault = c.run_text.ensures.write_fault;
  disk_fault = λ e. absurd (c.run_text.ensures.no_disk e);
  guest_fault = λ e. absurd (c.run_text.ensures.no_guest e);
  unfinished = λ u e. absurd (c.run_text.ensures.no_rollout u e);
  ran = c.run_text.ensures.ran;
  unnamed = record { unread = tt; disk = refl; fleet = refl; ports = refl };
  visiting = refl;
})

pub returns-in-Report : goal.returns-in-Report
returns-in-Report g c = ran-as _ _ _ _ _ _ (ap asked c.in-Report.is) (record {
  brings = c.report.ensures.reports;
  read_fault = c.report.ensures.read_fault;
  write_fault = c.report.ensures.write_fault;
  disk_fault = λ e. (refl, c.report.ensures.disk_fault e);
  guest_fault = λ e. absurd (c.report.ensures.no_guest e);
  unfinished = λ u e. absurd (c.report.ensures.no_rollout u e);
  ran = c.report.ensures.ran;
  unnamed = record { unread = tt; disk = tt; fleet = refl; ports = refl };
  visiting = refl;
})

pub returns-in-Agent : goal.returns-in-Agent
returns-in-Agent g c = ran-as _ _ _ _ _ _ (ap asked c.in-Agent.is) (record {
  brings = c.agent.ensures.runs;
  read_fault = λ e. absurd (c.agent.ensures.others.1 e);
  write_fault = c.agent.ensures.write_fault;
  disk_fault = λ e. absurd (c.agent.ensures.others.2 e);
  guest_fault = λ e. (refl, c.agent.ensures.guest_fault e);
  unfinished = λ u e. absurd (let no : true ≡ false = sym (ap tells_place e) ∙ c.agent.ensures.runs.known in cc);
  ran = c.agent.ensures.others.0;
  unnamed = record {
    unread = refl;
    disk = refl;
    fleet = tt;
    ports = same-ports (g.F.Fleet.told c.args.fleet.now) (g.F.Fleet.told c.agent.new.fleet) c.agent.ensures.ports;
  };
  visiting = c.agent.ensures.visiting;
})

pub returns-in-Run : goal.returns-in-Run
returns-in-Run g c = ran-as _ _ _ _ _ _ (ap asked c.in-Run.is) (record {
  brings = record {
    runs = c.roll_out.ensures.runs;
    guests = same-guests _ _ c.roll_out.ensures.guests.0 c.roll_out.ensures.guests.1;
    rolls = c.roll_out.ensures.rolls;
  };
  read_fault = c.roll_out.ensures.read_fault;
  write_fault = c.roll_out.ensures.write_fault;
  disk_fault = λ e. (refl, c.roll_out.ensures.disk_fault e);
  guest_fault = λ e. absurd (c.roll_out.ensures.others.1 e);
  unfinished = λ u e. refl;
  ran = c.roll_out.ensures.others.0;
  unnamed = record { unread = tt; disk = tt; fleet = tt; ports = tt };
  visiting = c.roll_out.ensures.guests.2;
})

pub returns-in-Drain : goal.returns-in-Drain
returns-in-Drain g c = ran-as _ _ _ _ _ _ (ap asked c.in-Drain.is) (record {
  brings = record {
    runs = c.drain_out.ensures.runs;
    guests = same-guests _ _ c.drain_out.ensures.guests.0 c.drain_out.ensures.guests.1;
    rolls = c.drain_out.ensures.rolls;
  };
  read_fault = c.drain_out.ensures.read_fault;
  write_fault = c.drain_out.ensures.write_fault;
  disk_fault = λ e. (refl, c.drain_out.ensures.disk_fault e);
  guest_fault = λ e. absurd (c.drain_out.ensures.others.1 e);
  unfinished = λ u e. refl;
  ran = c.drain_out.ensures.others.0;
  unnamed = record { unread = tt; disk = tt; fleet = tt; ports = tt };
  visiting = c.drain_out.ensures.guests.2;
})

pub roll_back-requires-clause-migration : goal.roll_back-requires-clause-migration
roll_back-requires-clause-migration g c κs within = subst IsAskedShape (ap asked c.in-Rollback.is) c.requires

pub returns-in-Rollback : goal.returns-in-Rollback
returns-in-Rollback g c = ran-as _ _ _ _ _ _ (ap asked c.in-Rollback.is) (record {
  brings = record {
    runs = c.roll_back.ensures.runs;
    guests = same-guests _ _ c.roll_back.ensures.guests.0 c.roll_back.ensures.guests.1;
    rolls = c.roll_back.ensures.rolls;
  };
  read_fault = c.roll_back.ensures.read_fault;
  write_fault = c.roll_back.ensures.write_fault;
  disk_fault = λ e. (refl, c.roll_back.ensures.disk_fault e);
  guest_fault = λ e. absurd (c.roll_back.ensures.others.1 e);
  unfinished = λ u e. refl;
  ran = c.roll_back.ensures.others.0;
  unnamed = record { unread = tt; disk = tt; fleet = tt; ports = tt };
  visiting = c.roll_back.ensures.guests.2;
})

pub returns-in-Held : goal.returns-in-Held
returns-in-Held g c = ran-as _ _ _ _ _ _ (ap asked c.in-Held.is) (record {
  brings = record {
    runs = c.held.ensures.runs;
    guests = same-guests _ _ c.held.ensures.guests.0 c.held.ensures.guests.1;
    asks = c.held.ensures.asks;
  };
  read_fault = c.held.ensures.read_fault;
  write_fault = c.held.ensures.write_fault;
  disk_fault = λ e. absurd (c.held.ensures.no_disk e);
  guest_fault = λ e. absurd (c.held.ensures.others.1 e);
  unfinished = λ u e. refl;
  ran = c.held.ensures.others.0;
  unnamed = record { unread = tt; disk = refl; fleet = tt; ports = tt };
  visiting = c.held.ensures.guests.2;
})

pub returns-in-Trial : goal.returns-in-Trial
returns-in-Trial g c = ran-as _ _ _ _ _ _ (ap asked c.in-Trial.is) (record {
  brings = record { unread = refl; shape = subst IsAskedShape (ap asked c.in-Trial.is) c.requires; follows = c.trial.ensures.follows };
  read_fault = λ e. absurd (c.trial.ensures.others.1 e);
  write_fault = c.trial.ensures.write_fault;
  disk_fault = λ e. absurd (c.trial.ensures.others.2 e);
  guest_fault = λ e. absurd (c.trial.ensures.others.3 e);
  unfinished = λ u e. absurd (c.trial.ensures.no_rollout u e);
  ran = c.trial.ensures.others.0;
  unnamed = record { unread = refl; disk = refl; fleet = refl; ports = refl };
  visiting = refl;
})
