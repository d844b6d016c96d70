use Rattle.std.proofs.Common.{ap, ◌∙◌}
use Rattle.rand_pcg.specs.Lcg.{Lcg}
use Rattle.order_policy.specs.Answers.{rank_by}
use Rattle.sim_run.specs.TrialText.{trial_text}
use Rattle.sim_run.specs.Trials.{after_trial}
use Rattle.sim_run.proofs.trial.run_trial.Goals as goal

pub returns-clause-text : goal.returns-clause-text
returns-clause-text g c =
    c.in_ok-text.ensures.text
    ∙ ap (λ (d : Lcg). trial_text c.args.plan.problem c.args.plan.plan c.args.rate_steps (rank_by c.args.policy.now.answers) c.args.shape.now d) c.in_ok-ahead.ensures

pub returns-clause-behind : goal.returns-clause-behind
returns-clause-behind g c =
    c.in_ok-text.ensures.behind
    ∙ ap (λ (d : Lcg). (after_trial c.args.plan.problem c.args.plan.plan (rank_by c.args.policy.now.answers) d c.args.shape.now.events).draws) c.in_ok-ahead.ensures
