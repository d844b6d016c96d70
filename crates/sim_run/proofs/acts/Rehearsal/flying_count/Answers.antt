use Rattle.std.proofs.Common.{length, ap, sym, ◌∙◌, subst, arith}
use Rattle.rollout_rules.specs.Network.{IsNetwork}
use Rattle.rollout_rules.specs.Wan.{Rollout}
use Rattle.dependency_graph.proofs.Growing.{item_count-few}
use Rattle.dependency_graph.specs.Graph.{Followed}
use Rattle.update_scheduler.proofs.Batches.{flying-short}
use Rattle.sim_run.specs.Rehearsing.{Rehearsing}
use Rattle.sim_run.proofs.acts.Rehearsal.flying_count.Goals as goal

pub returns-clause-few : goal.returns-clause-few
returns-clause-few g c =
    let r = c.self.inside.controller in
    let seen = subst (λ (o : Rollout). IsNetwork o.problem) (c.plan.ensures ∙ ap (λ (g : Followed). g.rollout) c.graph.ensures.value) c.checked_plan_is_valid.ensures.network in
    let net = subst (λ (s : Rehearsing). IsNetwork s.rollout.problem) (sym c.self.view_is) seen in
    omega (arith, ap length c.flying.ensures.value, flying-short r.rollout.problem r.history, item_count-few r.rollout.problem net)
