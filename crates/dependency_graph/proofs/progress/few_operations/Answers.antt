use Rattle.std.proofs.Common.{ap, arith}
use Rattle.rollout_rules.specs.Items.{item_at}
use Rattle.rollout_rules.specs.Wan.{last_stage}
use Rattle.dependency_graph.proofs.Counts.{operations-most}
use Rattle.dependency_graph.proofs.progress.few_operations.Goals as goal

pub returns-clause-few : goal.returns-clause-few
returns-clause-few c =
    let r = c.args.progress.now.rollout in
    omega (arith, c.operations.ensures, operations-most r.problem r.plan (item_at r.problem c.args.item), ap (λ q. last_stage q.plan) c.requires.own, c.last_stage.ensures.value, c.last_stage.ensures.few)
