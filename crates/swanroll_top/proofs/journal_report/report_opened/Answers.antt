use Rattle.rollout_report.specs.Journals.{digest_for}
use Rattle.swanroll_top.proofs.Leaving.{journal-failed, journal-leaves}
use Rattle.swanroll_top.proofs.Reporting.{reported}
use Rattle.swanroll_top.proofs.journal_report.report_opened.Goals as goal

pub returns-clause-follows : goal.returns-clause-follows
returns-clause-follows g c = reported _ _ _ _ _ _ _ c.requires.told c.report_journal-disk.ensures.tells c.write_report.ensures.written

pub returns-clause-leaves : goal.returns-clause-leaves
returns-clause-leaves g c =
    journal-leaves g.D.Disk.told _ _ _ _ _ _ _ _ c.write_report.ensures.written c.report_journal-disk.ensures.opened c.report_journal-disk.ensures.left

pub returns-clause-disk_fault : goal.returns-clause-disk_fault
returns-clause-disk_fault g c = λ e.
    journal-failed g.D.Disk.told c.args.disk c.report_journal-disk.result.disk c.args.plan (digest_for c.args.plan c.args.migration)
    c.report_journal-disk.result.answer c.report_journal-disk.ensures.left (c.write_report.ensures.disk e)
