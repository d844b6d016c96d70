use Rattle.std.proofs.Common.{◌≡◌, ◌<◌, ◌∙◌, ◌==◌, not, true, sym, ap, subst, eqb-true}
use Rattle.std.proofs.lemmas.Bool.{not-false}
use Rattle.rollout_rules.specs.Wan.{Rollout}
use Rattle.rollout_rules.specs.Items.{item_count, item_at}
use Rattle.rollout_rules.specs.History.{stand, flies}
use Rattle.rollout_rules.specs.Room.{least_stage}
use Rattle.dependency_graph.specs.Cells.{AreTouched}
use Rattle.dependency_graph.specs.Graph.{Followed, places, IsGraph}
use Rattle.dependency_graph.proofs.Looked.{AreLooked, looked-item, looked-order, looked-left, looked-there, looked-ends}
use Rattle.dependency_graph.proofs.Roused.{done-waits}
use Rattle.dependency_graph.proofs.graph.Graph.done.Goals as goal

pub lower_row-requires-clause-item : goal.lower_row-requires-clause-item
lower_row-requires-clause-item c =
    let s = c.self.inside in
    let n = c.args.item in
    let own = c.self.invariant.graph.own in
    let looked : AreLooked s.plan s.course n c.item.result c.least_stage-low.result c.stands-stage.result = record {
      own = own;
      inside = subst (λ (g : Followed). n < item_count g.rollout.problem) (sym c.self.view_is) c.requires.item;
      item = c.item.ensures;
      least = c.least_stage-low.ensures ∙ ap (λ (q : Rollout). least_stage q.problem q.plan (places s.course)) own;
      stands = c.stands-stage.ensures ∙ ap (λ (q : Rollout). stand q.problem q.plan (places s.course) (item_at q.problem n)) own;
    } in
    looked-item s.plan s.course n c.item.result c.least_stage-low.result c.stands-stage.result looked

pub lower_row-requires-clause-order : goal.lower_row-requires-clause-order
lower_row-requires-clause-order c =
    let s = c.self.inside in
    let n = c.args.item in
    let own = c.self.invariant.graph.own in
    let looked : AreLooked s.plan s.course n c.item.result c.least_stage-low.result c.stands-stage.result = record {
      own = own;
      inside = subst (λ (g : Followed). n < item_count g.rollout.problem) (sym c.self.view_is) c.requires.item;
      item = c.item.ensures;
      least = c.least_stage-low.ensures ∙ ap (λ (q : Rollout). least_stage q.problem q.plan (places s.course)) own;
      stands = c.stands-stage.ensures ∙ ap (λ (q : Rollout). stand q.problem q.plan (places s.course) (item_at q.problem n)) own;
    } in
    looked-order s.plan s.course n c.item.result c.least_stage-low.result c.stands-stage.result looked

pub lower_row-requires-clause-stage : goal.lower_row-requires-clause-stage
lower_row-requires-clause-stage c =
    let s = c.self.inside in
    let n = c.args.item in
    let own = c.self.invariant.graph.own in
    let looked : AreLooked s.plan s.course n c.item.result c.least_stage-low.result c.stands-stage.result = record {
      own = own;
      inside = subst (λ (g : Followed). n < item_count g.rollout.problem) (sym c.self.view_is) c.requires.item;
      item = c.item.ensures;
      least = c.least_stage-low.ensures ∙ ap (λ (q : Rollout). least_stage q.problem q.plan (places s.course)) own;
      stands = c.stands-stage.ensures ∙ ap (λ (q : Rollout). stand q.problem q.plan (places s.course) (item_at q.problem n)) own;
    } in
    let flying = subst (λ (g : Followed). flies g.history n ≡ true) (sym c.self.view_is) c.requires.flying in
    looked-left s.plan s.course n c.item.result c.least_stage-low.result c.stands-stage.result looked s.cells c.self.invariant.graph.rooms c.history_is_legal.ensures flying

pub lower_row-requires-clause-there : goal.lower_row-requires-clause-there
lower_row-requires-clause-there c =
    let s = c.self.inside in
    let n = c.args.item in
    let own = c.self.invariant.graph.own in
    let looked : AreLooked s.plan s.course n c.item.result c.least_stage-low.result c.stands-stage.result = record {
      own = own;
      inside = subst (λ (g : Followed). n < item_count g.rollout.problem) (sym c.self.view_is) c.requires.item;
      item = c.item.ensures;
      least = c.least_stage-low.ensures ∙ ap (λ (q : Rollout). least_stage q.problem q.plan (places s.course)) own;
      stands = c.stands-stage.ensures ∙ ap (λ (q : Rollout). stand q.problem q.plan (places s.course) (item_at q.problem n)) own;
    } in
    let flying = subst (λ (g : Followed). flies g.history n ≡ true) (sym c.self.view_is) c.requires.flying in
    looked-there s.plan s.course n c.item.result c.least_stage-low.result c.stands-stage.result looked s.cells c.self.invariant.graph.rooms c.history_is_legal.ensures flying

pub invariant_of-self : goal.invariant_of-self
invariant_of-self c =
    let s = c.self.inside in
    let n = c.args.item in
    let own = c.self.invariant.graph.own in
    let looked : AreLooked s.plan s.course n c.item.result c.least_stage-low.result c.stands-stage.result = record {
      own = own;
      inside = subst (λ (g : Followed). n < item_count g.rollout.problem) (sym c.self.view_is) c.requires.item;
      item = c.item.ensures;
      least = c.least_stage-low.ensures ∙ ap (λ (q : Rollout). least_stage q.problem q.plan (places s.course)) own;
      stands = c.stands-stage.ensures ∙ ap (λ (q : Rollout). stand q.problem q.plan (places s.course) (item_at q.problem n)) own;
    } in
    let flying = subst (λ (g : Followed). flies g.history n ≡ true) (sym c.self.view_is) c.requires.flying in
    let rooms = looked-ends s.plan s.course n c.item.result c.least_stage-low.result c.stands-stage.result looked s.cells c.self.invariant.graph.rooms c.history_is_legal.ensures flying c.lower_row.new.cells c.lower_row.ensures in
    let row = subst (AreTouched s.touched.problem (item_at s.touched.problem n)) (sym c.resources.ensures) c.row-row.ensures.touched in
    let waiting = done-waits s.plan s.touched s.course c.done.new.self n c.resources.result.now (not (c.least_stage-after.result == c.least_stage-low.result)) c.least_stage-low.result c.least_stage-after.result s.wakes c.rouse.new.wakes own c.self.invariant.graph.rows
    c.checked_plan_is_valid.ensures.network c.history_is_legal.ensures looked.inside flying c.done.ensures c.self.invariant.waiting row c.rouse.ensures
    (λ e. eqb-true c.least_stage-after.result c.least_stage-low.result (not-false (c.least_stage-after.result == c.least_stage-low.result) e)) looked.least c.least_stage-after.ensures in
    record { graph = subst (λ (g : Followed). IsGraph s.plan s.touched s.chains g c.lower_row.new.cells) (sym c.done.ensures) (record { own = own; rows = c.self.invariant.graph.rows; longest = c.self.invariant.graph.longest; rooms = rooms }); waiting = waiting }
