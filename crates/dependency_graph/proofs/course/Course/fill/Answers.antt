use Rattle.std.proofs.Common.{◌≡◌, ◌∙◌, [], sym, ap, subst}
use Rattle.rollout_rules.specs.Wan.{Rollout}
use Rattle.rollout_rules.specs.History.{History, places_of}
use Rattle.dependency_graph.specs.Ahead.{places_with}
use Rattle.dependency_graph.specs.Graph.{Followed, places}
use Rattle.dependency_graph.specs.Cells.{AreRooms}
use Rattle.dependency_graph.proofs.Agreement.{Agree}
use Rattle.dependency_graph.proofs.Counts.{counts-agree}
use Rattle.dependency_graph.proofs.Filled.{rooms-same}
use Rattle.dependency_graph.proofs.course.Course.fill.Goals as goal

pub returns : goal.returns
returns c =
    let s = c.self.inside in
    let r = c.args.plan.now in
    let h : History = record { start = s.start.items; entries = s.past.items } in
    let own : r ≡ s.progress.rollout = c.requires.own ∙ sym (ap (λ (g : Followed). g.rollout) c.self.view_is) in
    let agree = subst (λ (q : Rollout). Agree q.problem (places_with q s.progress []) (places_of q.problem h)) (sym own) (counts-agree s.progress h c.self.invariant.counts) in
    let rooms = rooms-same r (places_with r s.progress []) (places_of r.problem h) c.fill.new.cells agree c.fill.ensures in
    let there = subst (λ (q : Rollout). AreRooms r (places_of q.problem h) c.fill.new.cells) own rooms in
    subst (λ (g : Followed). AreRooms r (places g) c.fill.new.cells) c.self.view_is there
