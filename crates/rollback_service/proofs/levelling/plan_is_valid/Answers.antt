use Rattle.std.proofs.Common.{◌≡◌, ◌∙◌, true, subst, ap}
use Rattle.dependency_graph.specs.Graph.{Followed}
use Rattle.rollout_rules.specs.Network.{IsNetwork}
use Rattle.rollout_rules.specs.Valid.{is_valid_plan}
use Rattle.rollout_rules.specs.Wan.{Rollout}
use Rattle.rollback_service.proofs.levelling.plan_is_valid.Goals as goal

pub returns-clause-network : goal.returns-clause-network
returns-clause-network g c = subst (λ (r : Rollout). IsNetwork r.problem) (c.plan.ensures ∙ ap (λ (x : Followed). x.rollout) c.graph-graph.ensures.value) c.checked_plan_is_valid.ensures.network

pub returns-clause-valid : goal.returns-clause-valid
returns-clause-valid g c =
    subst (λ (r : Rollout). is_valid_plan r.problem r.plan ≡ true) (c.plan.ensures ∙ ap (λ (x : Followed). x.rollout) c.graph-graph.ensures.value) c.checked_plan_is_valid.ensures.valid
