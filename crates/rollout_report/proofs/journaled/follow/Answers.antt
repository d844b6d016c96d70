use Rattle.intent_journal.specs.Openings.{IsLeft}
use Rattle.intent_journal.proofs.Openings.{left_opened, opened_at}
use Rattle.rollout_report.proofs.Journaling.{left_short, ok_each, told_cause, told_text}
use Rattle.rollout_report.proofs.journaled.follow.Goals as goal

pub returns-in-Ok-clause-tells : goal.returns-in-Ok-clause-tells
returns-in-Ok-clause-tells g c =
    let opened = c.in-Ok.ensures.opened in
    told_text c.args.graph.now.rollout c.args.digest.now (g.D.Disk.told c.args.disk).bytes c.recover.new.graph c.in-Ok.list c.as_slice.result.now c.text_of.result opened.rollout opened.entries opened.found
    c.as_slice.ensures c.text_of.ensures.ok c.text_of.ensures.err

pub returns-in-Ok-clause-opened : goal.returns-in-Ok-clause-opened
returns-in-Ok-clause-opened g c =
    ok_each c.text_of.result _ (opened_at g.D.Disk.told c.args.digest.now c.args.graph.now.rollout c.args.disk c.in-Ok.journal.disk c.into_disk.result c.into_disk.ensures c.in-Ok.ensures.opened.on)

pub returns-in-Ok-clause-left : goal.returns-in-Ok-clause-left
returns-in-Ok-clause-left g c =
    left_short c.text_of.result
    (λ cause. IsLeft g.D.Disk.told c.args.graph.now.rollout c.args.digest.now c.args.disk cause c.into_disk.result) c.text_of.ensures.err
    (left_opened g.D.Disk.told c.args.digest.now c.args.graph.now.rollout c.args.disk c.into_disk.result
    (opened_at g.D.Disk.told c.args.digest.now c.args.graph.now.rollout c.args.disk c.in-Ok.journal.disk c.into_disk.result c.into_disk.ensures c.in-Ok.ensures.opened.on))

pub returns-in-Err-clause-tells : goal.returns-in-Err-clause-tells
returns-in-Err-clause-tells g c = told_cause c.args.graph.now.rollout c.args.digest.now (g.D.Disk.told c.args.disk).bytes c.in-Err.unopened.cause c.in-Err.ensures.left.refusal
