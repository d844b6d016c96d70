use Rattle.std.proofs.Common.{length, ap, ap₂, ◌∙◌}
use Rattle.rollout_rules.specs.Wan.{Rollout}
use Rattle.rollout_rules.specs.History.{History}
use Rattle.sim_run.specs.TrialText.{fullest, fullest_text}
use Rattle.sim_run.proofs.Told.{outcome_told}
use Rattle.sim_run.proofs.outcome.push_outcome.Goals as goal

pub returns : goal.returns
returns c =
    let o = c.args.graph.now.rollout in
    let h = c.args.graph.now.history in
    let told = c.plan.result.now in
    let g = c.args.history.now in
    outcome_told o.problem o.plan h c.args.text.now c.push_counts.new.text c.push_str.new.self c.push_fullest.new.text c.push_last_line.new.text
    (fullest_text told.problem told.plan g (fullest told.problem told.plan g (length told.problem.links))) c.op_total.result (length c.entries.result.now) c.unsettled.result
    c.op_total.ensures (ap length c.entries.ensures ∙ ap (λ (x : History). length x.entries) c.requires.history)
    (ap₂ (λ (r : Rollout) (x : History). fullest_text r.problem r.plan x (fullest r.problem r.plan x (length r.problem.links))) c.plan.ensures c.requires.history)
    c.unsettled.ensures c.in_ok-push_counts.ensures c.in_ok-push_str.ensures.ok c.in_ok-push_fullest.ensures
    c.in_ok-push_last_line.ensures
