use Rattle.std.proofs.Common.{◌≡◌, ◌<◌, ◌∙◌, ◌&&◌, true, sym, ap, subst}
use Rattle.std.proofs.lemmas.Bool.{and_from}
use Rattle.rollout_rules.specs.Wan.{Rollout}
use Rattle.rollout_rules.specs.Network.{IsNetwork}
use Rattle.rollout_rules.specs.Items.{item_count, item_at}
use Rattle.rollout_rules.specs.History.{stand}
use Rattle.rollout_rules.specs.Room.{least_stage}
use Rattle.dependency_graph.specs.Graph.{Followed, places, has_next, are_needs_met, has_room}
use Rattle.dependency_graph.specs.Waiting.{IsWakefulGraph}
use Rattle.dependency_graph.proofs.Blocked.{begun-waiting, admissible-woken}
use Rattle.dependency_graph.proofs.Looked.{AreLooked, looked-item, looked-last, looked-order, looked-fits, looked-begins}
use Rattle.dependency_graph.proofs.graph.Graph.begin.Goals as goal

pub raise_row-requires-clause-item : goal.raise_row-requires-clause-item
raise_row-requires-clause-item c =
    let s = c.self.inside in
    let n = c.args.item in
    let own = c.self.invariant.graph.own in
    let looked : AreLooked s.plan s.course n c.item.result c.least_stage-low.result c.stands-stage.result = record {
      own = own;
      inside = subst (λ (g : Followed). n < item_count g.rollout.problem) (sym c.self.view_is) c.requires.item;
      item = c.item.ensures;
      least = c.least_stage-low.ensures ∙ ap (λ (q : Rollout). least_stage q.problem q.plan (places s.course)) own;
      stands = c.stands-stage.ensures ∙ ap (λ (q : Rollout). stand q.problem q.plan (places s.course) (item_at q.problem n)) own;
    } in
    looked-item s.plan s.course n c.item.result c.least_stage-low.result c.stands-stage.result looked

pub raise_row-requires-clause-stage : goal.raise_row-requires-clause-stage
raise_row-requires-clause-stage c =
    let s = c.self.inside in
    let n = c.args.item in
    let own = c.self.invariant.graph.own in
    let looked : AreLooked s.plan s.course n c.item.result c.least_stage-low.result c.stands-stage.result = record {
      own = own;
      inside = subst (λ (g : Followed). n < item_count g.rollout.problem) (sym c.self.view_is) c.requires.item;
      item = c.item.ensures;
      least = c.least_stage-low.ensures ∙ ap (λ (q : Rollout). least_stage q.problem q.plan (places s.course)) own;
      stands = c.stands-stage.ensures ∙ ap (λ (q : Rollout). stand q.problem q.plan (places s.course) (item_at q.problem n)) own;
    } in
    looked-last s.plan s.course n c.item.result c.least_stage-low.result c.stands-stage.result looked

pub raise_row-requires-clause-order : goal.raise_row-requires-clause-order
raise_row-requires-clause-order c =
    let s = c.self.inside in
    let n = c.args.item in
    let own = c.self.invariant.graph.own in
    let looked : AreLooked s.plan s.course n c.item.result c.least_stage-low.result c.stands-stage.result = record {
      own = own;
      inside = subst (λ (g : Followed). n < item_count g.rollout.problem) (sym c.self.view_is) c.requires.item;
      item = c.item.ensures;
      least = c.least_stage-low.ensures ∙ ap (λ (q : Rollout). least_stage q.problem q.plan (places s.course)) own;
      stands = c.stands-stage.ensures ∙ ap (λ (q : Rollout). stand q.problem q.plan (places s.course) (item_at q.problem n)) own;
    } in
    looked-order s.plan s.course n c.item.result c.least_stage-low.result c.stands-stage.result looked

pub raise_row-requires-clause-fits : goal.raise_row-requires-clause-fits
raise_row-requires-clause-fits c =
    let s = c.self.inside in
    let n = c.args.item in
    let own = c.self.invariant.graph.own in
    let looked : AreLooked s.plan s.course n c.item.result c.least_stage-low.result c.stands-stage.result = record {
      own = own;
      inside = subst (λ (g : Followed). n < item_count g.rollout.problem) (sym c.self.view_is) c.requires.item;
      item = c.item.ensures;
      least = c.least_stage-low.ensures ∙ ap (λ (q : Rollout). least_stage q.problem q.plan (places s.course)) own;
      stands = c.stands-stage.ensures ∙ ap (λ (q : Rollout). stand q.problem q.plan (places s.course) (item_at q.problem n)) own;
    } in
    let next = subst (λ g. has_next g n ≡ true) (sym c.self.view_is) c.requires.next in
    let room = subst (λ g. has_room g n ≡ true) (sym c.self.view_is) c.requires.room in
    looked-fits s.plan s.course n c.item.result c.least_stage-low.result c.stands-stage.result looked s.cells c.self.invariant.graph.rooms c.history_is_legal.ensures c.checked_plan_is_valid.ensures.network c.checked_plan_is_valid.ensures.valid next room

pub invariant_of-self : goal.invariant_of-self
invariant_of-self c =
    let s = c.self.inside in
    let n = c.args.item in
    let own = c.self.invariant.graph.own in
    let looked : AreLooked s.plan s.course n c.item.result c.least_stage-low.result c.stands-stage.result = record {
      own = own;
      inside = subst (λ (g : Followed). n < item_count g.rollout.problem) (sym c.self.view_is) c.requires.item;
      item = c.item.ensures;
      least = c.least_stage-low.ensures ∙ ap (λ (q : Rollout). least_stage q.problem q.plan (places s.course)) own;
      stands = c.stands-stage.ensures ∙ ap (λ (q : Rollout). stand q.problem q.plan (places s.course) (item_at q.problem n)) own;
    } in
    let next = subst (λ g. has_next g n ≡ true) (sym c.self.view_is) c.requires.next in
    let rooms = looked-begins s.plan s.course n c.item.result c.least_stage-low.result c.stands-stage.result looked s.cells c.self.invariant.graph.rooms c.history_is_legal.ensures c.checked_plan_is_valid.ensures.network c.checked_plan_is_valid.ensures.valid next c.raise_row.new.cells c.raise_row.ensures in
    let inside = looked.inside in
    let net = subst (λ (q : Rollout). IsNetwork q.problem) own c.checked_plan_is_valid.ensures.network in
    let waiting = begun-waiting s.course n s.wakes c.rest.new.self net c.history_is_legal.ensures inside next c.self.invariant.waiting c.rest.ensures in
    subst (λ (g : Followed). IsWakefulGraph s.plan s.touched s.chains g c.raise_row.new.cells c.rest.new.self) (sym c.begin.ensures)
    (record { graph = record { own = own; rows = c.self.invariant.graph.rows; longest = c.self.invariant.graph.longest; rooms = rooms }; waiting = waiting })

pub rest-requires-clause-woken : goal.rest-requires-clause-woken
rest-requires-clause-woken c =
    let s = c.self.inside in
    let n = c.args.item in
    let inside = subst (λ (g : Followed). n < item_count g.rollout.problem) (sym c.self.view_is) c.requires.item in
    let next = subst (λ g. has_next g n ≡ true) (sym c.self.view_is) c.requires.next in
    let needs = subst (λ g. are_needs_met g n ≡ true) (sym c.self.view_is) c.requires.needs in
    let room = subst (λ g. has_room g n ≡ true) (sym c.self.view_is) c.requires.room in
    let may = and_from (has_next s.course n && are_needs_met s.course n) (has_room s.course n) (and_from (has_next s.course n) (are_needs_met s.course n) next needs) room in
    admissible-woken s.course s.wakes n inside c.history_is_legal.ensures c.self.invariant.waiting may
