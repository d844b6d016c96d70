use Rattle.std.proofs.Common.{Ok, refl, arith}
use Rattle.wan_edge.proofs.Faults.{rose_since}
use Rattle.swanroll_top.proofs.Leaving.{untouched-leaves}
use Rattle.swanroll_top.proofs.Reporting.{reported-late}
use Rattle.swanroll_top.proofs.journal_report.report_plan.Goals as goal

pub returns-in-Ok-clause-reports : goal.returns-in-Ok-clause-reports
returns-in-Ok-clause-reports g c = record {
  opened = c.open.new.self;
  opens = c.open.ensures.opens;
  follows = c.report_opened.ensures.follows;
  leaves = c.report_opened.ensures.leaves;
  untouched = λ three. absurd (reported-late _ _ _ _ _ _ c.report_opened.ensures.follows three);
}

pub returns-in-Ok-clause-disk_fault : goal.returns-in-Ok-clause-disk_fault
returns-in-Ok-clause-disk_fault g c = λ e. rose_since _ _ _ c.open.ensures.opens.count (c.report_opened.ensures.disk_fault e)

pub returns-in-Err-clause-reports : goal.returns-in-Err-clause-reports
returns-in-Err-clause-reports g c = record {
  opened = c.open.new.self;
  opens = c.open.ensures.opens;
  follows = ((c.args.plan, refl), refl);
  leaves = untouched-leaves g.D.Disk.told c.open.new.self c.open.new.self c.args.migration (Ok c.args.plan) 8 (g.met.D.Disk.only_now c.open.new.self) refl (λ h. omega (arith, h), (λ h. omega (arith, h), λ h. omega (arith, h)));
  untouched = λ three. absurd (omega (arith, three));
}
