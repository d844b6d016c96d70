use Rattle.std.proofs.Common.{sym, subst}
use Rattle.std.proofs.lemmas.Result.{IfOk-weaker}
use Rattle.rollout_rules.specs.Wan.{Rollout}
use Rattle.intent_journal.specs.Verdicts.{verdict}
use Rattle.sim_run.specs.Booked.{IsOpened, Opens, own_digest}
use Rattle.sim_run.proofs.booked.opened_over.Goals as goal

pub opened_for-requires : goal.opened_for-requires
opened_for-requires c =
    let image = c.in-Ok.left.timeline.medium.bytes in
    subst (λ (r : Rollout). Opens (verdict r own_digest image)) (sym c.into_plan.ensures) (c.requires image c.in-Ok.ensures)

pub returns-in-Ok : goal.returns-in-Ok
returns-in-Ok c =
    let image = c.in-Ok.left.timeline.medium.bytes in
    IfOk-weaker c.opened_for.result _ _
    (λ book is. record { image = image; left = c.in-Ok.ensures; opened = subst (λ (r : Rollout). IsOpened r image book) c.into_plan.ensures is })
    c.opened_for.ensures
