use Rattle.std.proofs.Common.{arith, List, [], ◌++◌, rules, ap, ◌∙◌, vec_capacity}
use Rattle.wan_edge.specs.Frames.{Command}
use Rattle.shared_book.specs.Told.{commands_at, if_listed, list_notes}
use Rattle.shared_book.proofs.HeardDones.{grown, heard-at, none-heard, noted-heard}
use Rattle.shared_book.proofs.ListCalls.{list-lasts, list-leaves, listed-at}
use Rattle.shared_book.proofs.RoundImages.{images-at, images-of, list-images}
use Rattle.shared_book.proofs.Sharing.{shared-as, shared-at}
use Rattle.shared_book.proofs.noted_book.NotedBook.commands.Goals as goal

pub invariant_of-self-2 : goal.invariant_of-self-2
invariant_of-self-2 g c =
    let leaves = list-leaves _ _ _ _ _ _ _ _ _ _ (vec_capacity c.write_if.new.notes) _ c.args.seat c.args.call c.list_commands-reply.result c.note_of.result (shared-at _ _ c.self.view_is c.self.invariant.0) c.requires.call c.list_commands-reply.ensures.told
    c.note_of.ensures c.make_room.ensures.same c.write_if.ensures.written (search rules) in (
      leaves.shared,
      images-of g.D.Disk.told g.M.Marker.opening g.M.Marker.moment g.M.Marker.faults
          c.self.inside.chronicle.value.disk _ _ leaves.noted
          (list-images g.D.Disk.told g.M.Marker.opening g.M.Marker.moment g.M.Marker.faults
          c.args.self.now.log c.self.inside.chronicle.value.disk
          (images-at g.D.Disk.told g.M.Marker.opening g.M.Marker.moment g.M.Marker.faults c.self.inside.chronicle.value.disk _ _ c.self.view_is c.self.invariant.1)
          c.args.seat c.list_commands-reply.result),
      noted-heard g.M.Marker.heard c.args.seat c.args.self.now.log _ (list_notes c.list_commands-reply.result) [] (heard-at g.M.Marker.heard _ _ c.self.view_is c.self.invariant.2) (none-heard g.M.Marker.heard) leaves.noted,
      c.self.invariant.3,
    )

pub returns-clause-legal : goal.returns-clause-legal
returns-clause-legal g c =
    (list-leaves _ _ _ _ _ _ _ _ _ _ (vec_capacity c.write_if.new.notes) _ c.args.seat c.args.call c.list_commands-reply.result c.note_of.result (shared-at _ _ c.self.view_is c.self.invariant.0) c.requires.call c.list_commands-reply.ensures.told
    c.note_of.ensures c.make_room.ensures.same c.write_if.ensures.written (search rules)).shared.legal

pub returns-clause-log : goal.returns-clause-log
returns-clause-log g c =
    (list-leaves _ _ _ _ _ _ _ _ _ _ (vec_capacity c.write_if.new.notes) _ c.args.seat c.args.call c.list_commands-reply.result c.note_of.result (shared-at _ _ c.self.view_is c.self.invariant.0) c.requires.call c.list_commands-reply.ensures.told
    c.note_of.ensures c.make_room.ensures.same c.write_if.ensures.written (search rules)).noted

pub returns-clause-out : goal.returns-clause-out
returns-clause-out g c =
    c.list_commands-reply.ensures.out
    ∙ ap (λ (added : List Command). c.out.inside.commands ++ added)
    (listed-at _ _ _ _ _ _ _ _ (shared-as _ c.deref.ensures (shared-at _ _ c.self.view_is c.self.invariant.0)) c.args.switches.now c.list_commands-reply.result c.list_commands-reply.ensures.told)
    ∙ ap (λ (earlier : List Command). earlier ++ if_listed c.list_commands-reply.result (commands_at g.M.Marker.opening c.args.self.now.log c.args.switches.now)) c.out.view_is

pub invariant_of-out : goal.invariant_of-out
invariant_of-out g c =
    let s = shared-at _ _ c.self.view_is c.self.invariant.0 in
    let o = g.M.Marker.opening in
    list-lasts g.D.Disk.told o g.M.Marker.moment g.M.Marker.faults c.self.inside.chronicle.value.disk c.args.self.now.log c.args.switches.now c.out.inside.commands c.list_commands-reply.new.out c.list_commands-reply.result s.legal
    (images-at g.D.Disk.told o g.M.Marker.moment g.M.Marker.faults c.self.inside.chronicle.value.disk _ _ c.self.view_is c.self.invariant.1)
    (c.list_commands-reply.ensures.out
    ∙ ap (λ (added : List Command). c.out.inside.commands ++ added)
    (listed-at _ _ _ _ _ _ _ _ (shared-as _ c.deref.ensures s) c.args.switches.now c.list_commands-reply.result c.list_commands-reply.ensures.told)) c.out.invariant

pub invariant_of-self : goal.invariant_of-self
invariant_of-self g c =
    grown g.D.Disk.told g.M.Marker.opening g.M.Marker.seats g.M.Marker.moment g.M.Marker.faults g.M.Marker.heard g.M.Marker.stood c.self.inside.chronicle.value c.self.inside.notes.items c.make_room.new.notes.items c.self.inside.halted c.self.inside.spare
    (vec_capacity c.self.inside.notes) (vec_capacity c.make_room.new.notes) c.self.invariant c.make_room.ensures.same (omega (arith, c.self.invariant.0.room, c.make_room.ensures.kept))
