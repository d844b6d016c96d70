use Rattle.std.proofs.Common.{ap}
use Rattle.rollout_rules.specs.Wan.{Rollout}
use Rattle.dependency_graph.specs.Graph.{Followed}
use Rattle.rollout_report.specs.Journals.{digest_for, journal_report}
use Rattle.intent_journal.proofs.Openings.{left_alone}
use Rattle.rollout_report.proofs.Journaling.{told_known}
use Rattle.rollout_report.proofs.journaled.report_journal.Goals as goal

pub returns-in-Ok-clause-tells : goal.returns-in-Ok-clause-tells
returns-in-Ok-clause-tells g c =
    told_known c.args.plan c.args.migration c.in-Ok.known.graph.rollout c.in-Ok.known.digest (g.D.Disk.told c.args.disk).bytes _ (ap (λ (f : Followed). f.rollout) c.in-Ok.ensures.graph) c.in-Ok.ensures.digest
    c.report_known.ensures.tells

pub returns-in-Err-clause-left : goal.returns-in-Err-clause-left
returns-in-Err-clause-left g c = left_alone g.D.Disk.told (digest_for c.args.plan c.args.migration) c.args.plan c.args.disk (g.met.D.Disk.only_now c.args.disk)
