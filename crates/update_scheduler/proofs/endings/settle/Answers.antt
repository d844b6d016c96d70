use Rattle.std.proofs.Common.{◌∙◌, ◌∷◌, ◌++◌, ℕ, [], ap}
use Rattle.rollout_rules.specs.History.{settled}
use Rattle.rollout_rules.specs.Release.{next_op}
use Rattle.rollout_rules.specs.declared.op.Entry.TheVariants.{Done}
use Rattle.rollout_laws.proofs.Histories.{settled-done}
use Rattle.dependency_graph.specs.Graph.{Followed}
use Rattle.update_scheduler.proofs.endings.settle.Goals as goal

pub returns-clause-batch : goal.returns-clause-batch
returns-clause-batch c =
    let n = c.args.item in
    let number = c.settled-number.ensures ∙ ap (λ (g : Followed). settled g.history n) c.done.ensures ∙ settled-done c.args.graph.now.history (next_op c.args.graph.now.history n) in
    c.push_reserved.ensures.items ∙ ap (λ (k : ℕ). c.args.batch.now.items ++ Done (record { item = n; number = k }) ∷ []) number
