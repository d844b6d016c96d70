use Rattle.std.proofs.Common.{ap, ◌∙◌}
use Rattle.rollout_rules.specs.Legal as legal
use Rattle.dependency_graph.specs.Graph.{Followed}
use Rattle.sim_run.proofs.Schedules.{finished-is}
use Rattle.sim_run.proofs.drain.is_finished.Goals as goal

pub returns : goal.returns
returns c =
    let r = c.args.rehearsal.now in
    c.finished.ensures ∙ ap (λ (g : Followed). legal.is_finished g.rollout.problem g.rollout.plan g.history) c.graph.ensures.value
    ∙ finished-is r.rollout.problem r.rollout.plan r.state.world.durable c.graph.ensures.legal
