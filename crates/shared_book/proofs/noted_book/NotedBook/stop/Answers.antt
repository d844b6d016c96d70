use Rattle.std.proofs.Common.{◌≡◌, true, false, [], Some, rules, arith, length, vec_len, vec_capacity}
use Rattle.shared_book.specs.Notes.{has_asked}
use Rattle.shared_book.proofs.Asking.{asked-is, has-place, stop-leaves, asked-log, unasked-log}
use Rattle.shared_book.specs.declared.note.What.TheVariants as what
use Rattle.shared_book.proofs.HeardDones.{heard-at, none-heard, noted-heard}
use Rattle.shared_book.proofs.RoundImages.{images-at, images-of, stop-images}
use Rattle.shared_book.proofs.Sharing.{shared-at}
use Rattle.shared_book.proofs.noted_book.NotedBook.stop.Goals as goal

pub write-requires : goal.write-requires
write-requires g c =
    let not_yet : has_asked c.args.seat c.args.self.now.log ≡ false = asked-is _ _ _ _ c.as_slice.result.now _ _ _ _ c.args.seat c.has_asked.result false
    (shared-at _ _ c.self.view_is c.self.invariant.0) c.as_slice.ensures.value c.has_asked.ensures (search rules) in
    let place = (has-place _ _ _ _ _ _ _ _ c.args.seat (shared-at _ _ c.self.view_is c.self.invariant.0) c.requires.seat not_yet).0 in
    let many : vec_len c.self.inside.notes ≡ length c.self.inside.notes.items = search rules in
    omega (arith, place, many)

pub overflow_sub-self : goal.overflow_sub-self
overflow_sub-self g c =
    let not_yet : has_asked c.args.seat c.args.self.now.log ≡ false = asked-is _ _ _ _ c.as_slice.result.now _ _ _ _ c.args.seat c.has_asked.result false
    (shared-at _ _ c.self.view_is c.self.invariant.0) c.as_slice.ensures.value c.has_asked.ensures (search rules) in
    (has-place _ _ _ _ _ _ _ _ c.args.seat (shared-at _ _ c.self.view_is c.self.invariant.0) c.requires.seat not_yet).1

pub invariant_of-self : goal.invariant_of-self
invariant_of-self g c =
    let s = shared-at _ _ c.self.view_is c.self.invariant.0 in
    let not_yet : has_asked c.args.seat c.args.self.now.log ≡ false = asked-is _ _ _ _ c.as_slice.result.now _ _ _ _ c.args.seat c.has_asked.result false s c.as_slice.ensures.value c.has_asked.ensures (search rules) in
    let leaves = stop-leaves _ _ _ _ _ _ _ _ _ (vec_capacity c.write.new.notes) _ c.args.seat c.args.call c.args.cause s c.requires.seat not_yet c.requires.call c.write.ensures.notes c.write.ensures.halted (let r = c.write.ensures.room in omega arith) in (
      leaves.shared,
      images-of g.D.Disk.told g.M.Marker.opening g.M.Marker.moment g.M.Marker.faults
          c.self.inside.chronicle.value.disk _ _ leaves.noted
          (stop-images g.D.Disk.told g.M.Marker.opening g.M.Marker.moment g.M.Marker.faults
          c.args.self.now.log c.self.inside.chronicle.value.disk
          (images-at g.D.Disk.told g.M.Marker.opening g.M.Marker.moment g.M.Marker.faults c.self.inside.chronicle.value.disk _ _ c.self.view_is c.self.invariant.1)
          c.args.seat c.args.cause),
      noted-heard g.M.Marker.heard c.args.seat c.args.self.now.log _ (Some (what.Stop c.args.cause)) [] (heard-at g.M.Marker.heard _ _ c.self.view_is c.self.invariant.2) (none-heard g.M.Marker.heard) leaves.noted,
      c.self.invariant.3,
    )

pub returns-then-not-has_asked-clause-legal : goal.returns-then-not-has_asked-clause-legal
returns-then-not-has_asked-clause-legal g c =
    let not_yet : has_asked c.args.seat c.args.self.now.log ≡ false = asked-is _ _ _ _ c.as_slice.result.now _ _ _ _ c.args.seat c.has_asked.result false
    (shared-at _ _ c.self.view_is c.self.invariant.0) c.as_slice.ensures.value c.has_asked.ensures (search rules) in
    (stop-leaves _ _ _ _ _ _ _ _ _ (vec_capacity c.write.new.notes) _ c.args.seat c.args.call c.args.cause (shared-at _ _ c.self.view_is c.self.invariant.0) c.requires.seat not_yet c.requires.call c.write.ensures.notes c.write.ensures.halted (let r = c.write.ensures.room in omega arith)).shared.legal

pub returns-then-not-has_asked-clause-log : goal.returns-then-not-has_asked-clause-log
returns-then-not-has_asked-clause-log g c =
    let not_yet : has_asked c.args.seat c.args.self.now.log ≡ false = asked-is _ _ _ _ c.as_slice.result.now _ _ _ _ c.args.seat c.has_asked.result false
    (shared-at _ _ c.self.view_is c.self.invariant.0) c.as_slice.ensures.value c.has_asked.ensures (search rules) in
    unasked-log (has_asked c.args.seat c.args.self.now.log) c.args.self.now.log _ _ not_yet (stop-leaves _ _ _ _ _ _ _ _ _ (vec_capacity c.write.new.notes) _ c.args.seat c.args.call c.args.cause (shared-at _ _ c.self.view_is c.self.invariant.0) c.requires.seat not_yet c.requires.call c.write.ensures.notes c.write.ensures.halted (let r = c.write.ensures.room in omega arith)).noted

pub returns-else-not-has_asked-clause-log : goal.returns-else-not-has_asked-clause-log
returns-else-not-has_asked-clause-log g c =
    asked-log (has_asked c.args.seat c.args.self.now.log) c.args.self.now.log _ (asked-is _ _ _ _ c.as_slice.result.now _ _ _ _ c.args.seat c.has_asked.result true
    (shared-at _ _ c.self.view_is c.self.invariant.0) c.as_slice.ensures.value c.has_asked.ensures (search rules))
