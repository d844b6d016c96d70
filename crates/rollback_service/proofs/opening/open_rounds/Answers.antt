use Rattle.rollout_report.specs.Journals.{digest_for}
use Rattle.intent_journal.proofs.Openings.{left_alone}
use Rattle.rollback_service.proofs.opening.open_rounds.Goals as goal

pub returns-in-Err-clause-left : goal.returns-in-Err-clause-left
returns-in-Err-clause-left g c = left_alone g.D.Disk.told (digest_for c.args.plan c.args.migration) c.args.plan c.args.disk (g.met.D.Disk.only_now c.args.disk)
