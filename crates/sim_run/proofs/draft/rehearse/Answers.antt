use Rattle.std.proofs.Common.{subst}
use Rattle.std.specs.Prelude.{IfOk}
use Rattle.order_policy.specs.Answers.{rank_by}
use Rattle.sim_run.specs.DrawnFor.{IsDrawnFor}
use Rattle.sim_run.specs.Rehearsing.{Rehearsing}
use Rattle.sim_run.proofs.draft.rehearse.Goals as goal

pub returns-in-Ok : goal.returns-in-Ok
returns-in-Ok g c =
    subst (λ (r : Rehearsing). IfOk c.of_rehearsal.result (λ drawn. IsDrawnFor (rank_by c.args.policy.now.answers) c.args.shape.now r.rollout drawn)) c.in-Ok.ensures c.of_rehearsal.ensures
