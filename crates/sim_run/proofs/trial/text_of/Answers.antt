use Rattle.order_policy.specs.Answers.{rank_by}
use Rattle.std.proofs.Common.{ap, ◌∙◌}
use Rattle.rollout_rules.specs.Wan.{Rollout}
use Rattle.dependency_graph.specs.Graph.{Followed}
use Rattle.sim_run.specs.TrialText.{plan_line}
use Rattle.std.proofs.Common.{◌++◌}
use Rattle.sim_run.proofs.Told.{told}
use Rattle.sim_run.proofs.trial.text_of.Goals as goal

pub returns-clause-text : goal.returns-clause-text
returns-clause-text g c =
    told c.args.rehearsal.now (rank_by c.args.policy.now.answers) c.args.rate_steps c.args.shape.now c.args.draws.now
    c.new-text.result c.push_shape.new.text c.push_plan.new.text c.push_events.new.text c.push_outcome.new.text c.do_events.new.rehearsal c.drain.new.rehearsal c.in_ok-skipped.skipped c.in_ok-turns.turns
    c.new-text.ensures c.in_ok-push_shape.ensures
    (c.in_ok-push_plan.ensures ∙ ap (λ (o : Rollout). c.push_shape.new.text ++ plan_line o.plan c.args.rate_steps) (c.plan.ensures ∙ ap (λ (f : Followed). f.rollout) c.graph.ensures.value))
    c.in_ok-skipped.ensures.state c.in_ok-skipped.ensures.skipped c.in_ok-turns.ensures.state c.in_ok-turns.ensures.turns c.in_ok-push_events.ensures c.in_ok-push_outcome.ensures
