use Rattle.std.proofs.Common.{◌≡◌, ℕ, ◌<◌, ◌∙◌, true, Option, Some, None, IfSome, sym, ap, subst}
use Rattle.rollout_rules.specs.Wan.{Rollout}
use Rattle.rollout_rules.specs.Items.{item_count, item_at}
use Rattle.rollout_rules.specs.History.{stand}
use Rattle.rollout_rules.specs.Room.{least_stage}
use Rattle.dependency_graph.specs.Graph.{Followed, places, has_next, has_room}
use Rattle.dependency_graph.proofs.Looked.{AreLooked, looked-item, looked-last, looked-order, looked-holds}
use Rattle.dependency_graph.specs.Waiting.{Lacks}
use Rattle.dependency_graph.proofs.Lacking.{looked-lacks}
use Rattle.dependency_graph.proofs.graph.Graph.lacking.Goals as goal

pub first_lacking-requires-clause-item : goal.first_lacking-requires-clause-item
first_lacking-requires-clause-item c =
    let s = c.self.inside in
    let n = c.args.item in
    let own = c.self.invariant.graph.own in
    let looked : AreLooked s.plan s.course n c.item.result c.least_stage-low.result c.stands-stage.result = record {
      own = own;
      inside = subst (λ (g : Followed). n < item_count g.rollout.problem) (sym c.self.view_is) c.requires.item;
      item = c.item.ensures;
      least = c.least_stage-low.ensures ∙ ap (λ (q : Rollout). least_stage q.problem q.plan (places s.course)) own;
      stands = c.stands-stage.ensures ∙ ap (λ (q : Rollout). stand q.problem q.plan (places s.course) (item_at q.problem n)) own;
    } in
    looked-item s.plan s.course n c.item.result c.least_stage-low.result c.stands-stage.result looked

pub first_lacking-requires-clause-stage : goal.first_lacking-requires-clause-stage
first_lacking-requires-clause-stage c =
    let s = c.self.inside in
    let n = c.args.item in
    let own = c.self.invariant.graph.own in
    let looked : AreLooked s.plan s.course n c.item.result c.least_stage-low.result c.stands-stage.result = record {
      own = own;
      inside = subst (λ (g : Followed). n < item_count g.rollout.problem) (sym c.self.view_is) c.requires.item;
      item = c.item.ensures;
      least = c.least_stage-low.ensures ∙ ap (λ (q : Rollout). least_stage q.problem q.plan (places s.course)) own;
      stands = c.stands-stage.ensures ∙ ap (λ (q : Rollout). stand q.problem q.plan (places s.course) (item_at q.problem n)) own;
    } in
    looked-last s.plan s.course n c.item.result c.least_stage-low.result c.stands-stage.result looked

pub first_lacking-requires-clause-order : goal.first_lacking-requires-clause-order
first_lacking-requires-clause-order c =
    let s = c.self.inside in
    let n = c.args.item in
    let own = c.self.invariant.graph.own in
    let looked : AreLooked s.plan s.course n c.item.result c.least_stage-low.result c.stands-stage.result = record {
      own = own;
      inside = subst (λ (g : Followed). n < item_count g.rollout.problem) (sym c.self.view_is) c.requires.item;
      item = c.item.ensures;
      least = c.least_stage-low.ensures ∙ ap (λ (q : Rollout). least_stage q.problem q.plan (places s.course)) own;
      stands = c.stands-stage.ensures ∙ ap (λ (q : Rollout). stand q.problem q.plan (places s.course) (item_at q.problem n)) own;
    } in
    looked-order s.plan s.course n c.item.result c.least_stage-low.result c.stands-stage.result looked

pub returns-clause-none : goal.returns-clause-none
returns-clause-none c =
    let s = c.self.inside in
    let n = c.args.item in
    let own = c.self.invariant.graph.own in
    let looked : AreLooked s.plan s.course n c.item.result c.least_stage-low.result c.stands-stage.result = record {
      own = own;
      inside = subst (λ (g : Followed). n < item_count g.rollout.problem) (sym c.self.view_is) c.requires.item;
      item = c.item.ensures;
      least = c.least_stage-low.ensures ∙ ap (λ (q : Rollout). least_stage q.problem q.plan (places s.course)) own;
      stands = c.stands-stage.ensures ∙ ap (λ (q : Rollout). stand q.problem q.plan (places s.course) (item_at q.problem n)) own;
    } in
    let next = subst (λ g. has_next g n ≡ true) (sym c.self.view_is) c.requires.next in
    c.first_lacking.ensures.none
    ∙ looked-holds s.plan s.course n c.item.result c.least_stage-low.result c.stands-stage.result looked s.cells c.self.invariant.graph.rooms c.history_is_legal.ensures c.checked_plan_is_valid.ensures.network c.checked_plan_is_valid.ensures.valid next
    s.touched c.row-row.result.now.resources c.self.invariant.graph.rows c.row-row.ensures.touched
    ∙ ap (λ g. has_room g n) c.self.view_is

pub returns-clause-lacks : goal.returns-clause-lacks
returns-clause-lacks c = on-some _ c.first_lacking.ensures.lacking (λ q fails.
    let s = c.self.inside in
    let n = c.args.item in
    let own = c.self.invariant.graph.own in
    let looked : AreLooked s.plan s.course n c.item.result c.least_stage-low.result c.stands-stage.result = record {
      own = own;
      inside = subst (λ (g : Followed). n < item_count g.rollout.problem) (sym c.self.view_is) c.requires.item;
      item = c.item.ensures;
      least = c.least_stage-low.ensures ∙ ap (λ (q : Rollout). least_stage q.problem q.plan (places s.course)) own;
      stands = c.stands-stage.ensures ∙ ap (λ (q : Rollout). stand q.problem q.plan (places s.course) (item_at q.problem n)) own;
    } in
    let next = subst (λ g. has_next g n ≡ true) (sym c.self.view_is) c.requires.next in
    subst (λ (g : Followed). Lacks g n q) c.self.view_is (looked-lacks s.plan s.course n c.item.result c.least_stage-low.result c.stands-stage.result looked s.cells c.self.invariant.graph.rooms next q fails))
  where
    on-some : {P Q : ℕ → Type 0} (found : Option ℕ) → IfSome found P → ((q : ℕ) → P q → Q q) → IfSome found Q
    on-some None so step = so
    on-some (Some q) so step = step q so
