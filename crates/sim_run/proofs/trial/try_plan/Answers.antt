use Rattle.std.proofs.Common.{◌≡◌, subst}
use Rattle.std.specs.Prelude.{IfOk, OnOk}
use Rattle.order_policy.specs.Answers.{rank_by}
use Rattle.sim_run.specs.Rehearsing.{Rehearsing}
use Rattle.sim_run.specs.TrialText.{trial_text}
use Rattle.sim_run.specs.Trials.{after_trial}
use Rattle.sim_run.proofs.trial.try_plan.Goals as goal

pub returns-in-Ok-clause-text : goal.returns-in-Ok-clause-text
returns-in-Ok-clause-text g c =
    subst (λ (r : Rehearsing). IfOk c.of_rehearsal.result (λ text. text ≡ trial_text r.rollout.problem r.rollout.plan c.args.rate_steps (rank_by c.args.policy.now.answers) c.args.shape.now c.args.draws.now)) c.in-Ok.ensures c.of_rehearsal.ensures.text

pub returns-in-Ok-clause-behind : goal.returns-in-Ok-clause-behind
returns-in-Ok-clause-behind g c =
    subst (λ (r : Rehearsing). OnOk c.of_rehearsal.result (c.of_rehearsal.new.draws ≡ (after_trial r.rollout.problem r.rollout.plan (rank_by c.args.policy.now.answers) c.args.draws.now c.args.shape.now.events).draws)) c.in-Ok.ensures c.of_rehearsal.ensures.behind
