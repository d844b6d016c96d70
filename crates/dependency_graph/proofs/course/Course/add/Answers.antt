use Rattle.std.proofs.Common.{◌≡◌, true, sym, subst}
use Rattle.rollout_rules.specs.Wan.{Rollout}
use Rattle.rollout_rules.specs.History.{History}
use Rattle.rollout_rules.specs.Legal.{may_add}
use Rattle.dependency_graph.specs.Past.{Entries}
use Rattle.dependency_graph.specs.Graph.{IsFollowed}
use Rattle.dependency_graph.proofs.Followed.{followed-left, followed-room, followed-more}
use Rattle.dependency_graph.proofs.course.Course.add.Goals as goal

pub add-requires : goal.add-requires
add-requires c =
    let s = c.self.inside in
    let h : History = record { start = s.start.items; entries = s.past.items } in
    let own = subst (λ (r : Rollout). may_add r.problem r.plan c.args.self.now.history c.args.entry ≡ true) c.requires.own c.requires.may in
    let may = subst (λ v. may_add v.rollout.problem v.rollout.plan v.history c.args.entry ≡ true) (sym c.self.view_is) own in
    followed-room s.progress h s.past.room c.self.invariant c.args.entry may

pub add-requires-2-clause-left : goal.add-requires-2-clause-left
add-requires-2-clause-left c =
    let s = c.self.inside in
    let h : History = record { start = s.start.items; entries = s.past.items } in
    let own = subst (λ (r : Rollout). may_add r.problem r.plan c.args.self.now.history c.args.entry ≡ true) c.requires.own c.requires.may in
    let may = subst (λ v. may_add v.rollout.problem v.rollout.plan v.history c.args.entry ≡ true) (sym c.self.view_is) own in
    followed-left s.progress h s.past.room c.self.invariant c.args.entry may

pub invariant_of-self : goal.invariant_of-self
invariant_of-self c =
    let s = c.self.inside in
    let h : History = record { start = s.start.items; entries = s.past.items } in
    let own = subst (λ (r : Rollout). may_add r.problem r.plan c.args.self.now.history c.args.entry ≡ true) c.requires.own c.requires.may in
    let may = subst (λ v. may_add v.rollout.problem v.rollout.plan v.history c.args.entry ≡ true) (sym c.self.view_is) own in
    let more = followed-more s.progress h s.past.room c.self.invariant c.args.entry may c.add-2.new.self c.add-2.ensures.rollout (c.add-2.ensures.counts h c.self.invariant.counts) in
    subst (λ (q : Entries). IsFollowed c.add-2.new.self (record { start = s.start.items; entries = q.items }) q.room) (sym c.add.ensures) more
