use Rattle.std.proofs.Common.{length, ap, ◌∙◌}
use Rattle.rollout_rules.specs.Wan.{Problem}
use Rattle.dependency_graph.proofs.StageRows.{nothing-ahead}
use Rattle.dependency_graph.proofs.longest.Ahead.of_the_last.Goals as goal

pub returns : goal.returns
returns c =
    nothing-ahead c.args.plan.now.problem c.args.plan.now.plan _ _ _ _ _ _
    (ap length c.flows.ensures.list ∙ ap (λ (p : Problem). length p.flows) c.problem-2.ensures)
    (ap length c.tunnels-tunnels.ensures.list ∙ ap (λ (p : Problem). length p.tunnels) c.problem.ensures)
    c.in_ok-nothing.ensures c.in_ok-nothing-2.ensures c.in_ok-nothing-3.ensures c.in_ok-nothing-4.ensures
