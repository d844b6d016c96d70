use Rattle.std.proofs.Common.{◌≡◌, ◌∙◌, sym, ap}
use Rattle.rollout_rules.specs.Items.{item_count}
use Rattle.rollout_rules.specs.Legal.{is_sound}
use Rattle.rollout_rules.specs.Wan.{Rollout}
use Rattle.dependency_graph.specs.Graph.{Followed}
use Rattle.rollback_plan.specs.Turning.{back}
use Rattle.rollback_plan.proofs.Alike.{count-turned}
use Rattle.rollback_service.proofs.placing.way_back.Goals as goal

pub with_start-requires-clause-empty : goal.with_start-requires-clause-empty
with_start-requires-clause-empty c = ap (λ (g : Followed). g.history.entries) c.in_ok-known.ensures.graph

pub with_start-requires-clause-numbers : goal.with_start-requires-clause-numbers
with_start-requires-clause-numbers c =
    let is : c.in_ok-known.known.graph.rollout ≡ back c.args.plan.now = ap (λ (g : Followed). g.rollout) c.in_ok-known.ensures.graph ∙ c.in_ok-there.ensures in
    c.requires.start.numbers ∙ sym (count-turned c.args.plan.now.problem) ∙ sym (ap (λ (r : Rollout). item_count r.problem) is)

pub with_start-requires-clause-sound : goal.with_start-requires-clause-sound
with_start-requires-clause-sound c =
    let is : c.in_ok-known.known.graph.rollout ≡ back c.args.plan.now = ap (λ (g : Followed). g.rollout) c.in_ok-known.ensures.graph ∙ c.in_ok-there.ensures in
    ap (λ (r : Rollout). is_sound r.problem r.plan c.args.start.now) is ∙ c.requires.start.sound

pub returns-clause-rollout : goal.returns-clause-rollout
returns-clause-rollout c = c.with_start.ensures.rollout ∙ ap (λ (g : Followed). g.rollout) c.in_ok-known.ensures.graph ∙ c.in_ok-there.ensures
