use Rattle.std.proofs.Common.{arith, [], rules, ap, sym, ◌∙◌, vec_capacity}
use Rattle.rollout_book.specs.JournaledRounds.{Journaled}
use Rattle.shared_book.specs.Waking.{wake_of}
use Rattle.shared_book.specs.Replies.{wake_says}
use Rattle.shared_book.proofs.HeardDones.{grown, heard-at, none-heard, noted-heard}
use Rattle.shared_book.proofs.RoundImages.{images-at, images-of, wake-images}
use Rattle.shared_book.proofs.Sharing.{shared-as, shared-at}
use Rattle.shared_book.proofs.Woken.{wake-is, wake-leaves}
use Rattle.shared_book.proofs.noted_book.NotedBook.look.Goals as goal

pub returns-in_default-clause-told : goal.returns-in_default-clause-told
returns-in_default-clause-told g c =
    sym c.in_default.is ∙ (c.end_of_wait.ensures ∙ wake-is _ _ _ _ _ _ _ _ (shared-as _ c.deref.ensures (shared-at _ _ c.self.view_is c.self.invariant.0)) c.args.switches.now)

pub invariant_of-self-2 : goal.invariant_of-self-2
invariant_of-self-2 g c =
    let leaves = wake-leaves _ _ _ _ _ _ _ _ _ _ (vec_capacity c.write_if.new.notes) _ c.args.seat c.args.call c.args.switches.now c.in-Some.woken c.note_of.result (shared-at _ _ c.self.view_is c.self.invariant.0) c.requires.call (sym c.in-Some.is ∙ c.end_of_wait.ensures ∙ ap (λ (b : Journaled g.row.D.Denot). wake_of b c.self.inside.halted c.args.switches.now) c.deref.ensures)
    c.note_of.ensures c.make_room.ensures.same c.write_if.ensures.written (search rules) in (
      leaves.shared,
      images-of g.D.Disk.told g.M.Marker.opening g.M.Marker.moment g.M.Marker.faults
          c.self.inside.chronicle.value.disk _ _ leaves.noted
          (wake-images g.D.Disk.told g.M.Marker.opening g.M.Marker.moment g.M.Marker.faults
          c.args.self.now.log c.self.inside.chronicle.value.disk
          (images-at g.D.Disk.told g.M.Marker.opening g.M.Marker.moment g.M.Marker.faults c.self.inside.chronicle.value.disk _ _ c.self.view_is c.self.invariant.1)
          c.args.seat c.in-Some.woken),
      noted-heard g.M.Marker.heard c.args.seat c.args.self.now.log _ (wake_says c.in-Some.woken) [] (heard-at g.M.Marker.heard _ _ c.self.view_is c.self.invariant.2) (none-heard g.M.Marker.heard) leaves.noted,
      c.self.invariant.3,
    )

pub returns-clause-legal : goal.returns-clause-legal
returns-clause-legal g c =
    (wake-leaves _ _ _ _ _ _ _ _ _ _ (vec_capacity c.write_if.new.notes) _ c.args.seat c.args.call c.args.switches.now c.in-Some.woken c.note_of.result (shared-at _ _ c.self.view_is c.self.invariant.0) c.requires.call (sym c.in-Some.is ∙ c.end_of_wait.ensures ∙ ap (λ (b : Journaled g.row.D.Denot). wake_of b c.self.inside.halted c.args.switches.now) c.deref.ensures)
    c.note_of.ensures c.make_room.ensures.same c.write_if.ensures.written (search rules)).shared.legal

pub returns-clause-log : goal.returns-clause-log
returns-clause-log g c =
    (wake-leaves _ _ _ _ _ _ _ _ _ _ (vec_capacity c.write_if.new.notes) _ c.args.seat c.args.call c.args.switches.now c.in-Some.woken c.note_of.result (shared-at _ _ c.self.view_is c.self.invariant.0) c.requires.call (sym c.in-Some.is ∙ c.end_of_wait.ensures ∙ ap (λ (b : Journaled g.row.D.Denot). wake_of b c.self.inside.halted c.args.switches.now) c.deref.ensures)
    c.note_of.ensures c.make_room.ensures.same c.write_if.ensures.written (search rules)).noted

pub returns-clause-told : goal.returns-clause-told
returns-clause-told g c =
    (wake-leaves _ _ _ _ _ _ _ _ _ _ (vec_capacity c.write_if.new.notes) _ c.args.seat c.args.call c.args.switches.now c.in-Some.woken c.note_of.result (shared-at _ _ c.self.view_is c.self.invariant.0) c.requires.call (sym c.in-Some.is ∙ c.end_of_wait.ensures ∙ ap (λ (b : Journaled g.row.D.Denot). wake_of b c.self.inside.halted c.args.switches.now) c.deref.ensures)
    c.note_of.ensures c.make_room.ensures.same c.write_if.ensures.written (search rules)).told

pub invariant_of-self : goal.invariant_of-self
invariant_of-self g c =
    grown g.D.Disk.told g.M.Marker.opening g.M.Marker.seats g.M.Marker.moment g.M.Marker.faults g.M.Marker.heard g.M.Marker.stood c.self.inside.chronicle.value c.self.inside.notes.items c.make_room.new.notes.items c.self.inside.halted c.self.inside.spare
    (vec_capacity c.self.inside.notes) (vec_capacity c.make_room.new.notes) c.self.invariant c.make_room.ensures.same (omega (arith, c.self.invariant.0.room, c.make_room.ensures.kept))
