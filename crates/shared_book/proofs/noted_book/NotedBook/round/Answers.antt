use Rattle.std.proofs.Common.{arith, rules, vec_capacity, ◌≤◌}
use Rattle.order_policy.specs.Answers.{rank_by}
use Rattle.wan_edge.specs.Streams.{Rose}
use Rattle.rollout_book.specs.Aliens.{told_by}
use Rattle.shared_book.specs.Histories.{history_of}
use Rattle.shared_book.specs.Replies.{batch_at}
use Rattle.shared_book.specs.Told.{OnFailed, round_notes}
use Rattle.shared_book.proofs.HeardDones.{grown, heard-at, noted-heard, round-heard}
use Rattle.shared_book.proofs.RoundImages.{grows-of, images-as, images-at, rose-of, round-images-by, round-stays-by}
use Rattle.shared_book.proofs.Rounded.{made-plain, round-leaves}
use Rattle.shared_book.proofs.Sharing.{shared-as, shared-at}
use Rattle.shared_book.proofs.Staying.{stays-as}
use Rattle.shared_book.proofs.noted_book.NotedBook.round.Goals as goal

pub invariant_of-self-2 : goal.invariant_of-self-2
invariant_of-self-2 g c =
    let s = shared-as _ c.deref_mut.ensures.value (shared-at _ _ c.self.view_is c.self.invariant.0) in
    let plain = made-plain g.D.Disk.told c.deref_mut.result.now c.make_round-reply.new.chronicle _ (rank_by c.args.policy.now.answers) c.args.answers.now c.make_round-reply.result c.make_round-reply.ensures in
    let leaves = round-leaves _ _ _ _ _ _ _ _ _ _ _ (vec_capacity c.write_if.new.notes) c.args.self.now.log c.args.answers.now (rank_by c.args.policy.now.answers) c.args.seat c.args.call c.make_round-reply.result c.note_of.result
    s c.requires.policy c.requires.call plain c.note_of.ensures c.make_room.ensures.same c.write_if.ensures.written (search rules) in
    let images = images-as g.D.Disk.told g.M.Marker.opening g.M.Marker.moment g.M.Marker.faults c.self.inside.chronicle.value c.deref_mut.result.now _ c.deref_mut.ensures.value
    (images-at g.D.Disk.told g.M.Marker.opening g.M.Marker.moment g.M.Marker.faults c.self.inside.chronicle.value.disk _ _ c.self.view_is c.self.invariant.1) in (
      leaves.shared,
      round-images-by g.D.Disk.told g.M.Marker.opening g.M.Marker.moment g.M.Marker.faults
          _ c.deref_mut.result.now c.make_round-reply.new.chronicle _ _ _ _ c.args.self.now.log _ c.args.answers.now (rank_by c.args.policy.now.answers) c.args.seat c.make_round-reply.result s c.requires.policy
          images
          (g.met.D.Disk.counts_now c.make_round-reply.new.chronicle.disk) c.make_round-reply.ensures leaves.shared.legal leaves.noted,
      noted-heard g.M.Marker.heard c.args.seat c.args.self.now.log _ (round_notes c.make_round-reply.result) (batch_at g.M.Marker.opening (history_of g.M.Marker.opening c.args.self.now.log) (told_by c.args.answers.now)) (heard-at g.M.Marker.heard _ _ c.self.view_is c.self.invariant.2)
          (round-heard g.M.Marker.heard g.M.Marker.opening (history_of g.M.Marker.opening c.args.self.now.log) c.args.answers.now c.requires.heard) leaves.noted,
      round-stays-by g.D.Disk.told g.M.Marker.opening g.M.Marker.moment g.M.Marker.faults g.M.Marker.stood
          _ c.deref_mut.result.now c.make_round-reply.new.chronicle _ _ _ _ c.args.self.now.log _ c.args.answers.now (rank_by c.args.policy.now.answers) c.args.seat c.make_round-reply.result s c.requires.policy
          images
          (stays-as g.D.Disk.told g.M.Marker.opening g.M.Marker.stood c.self.inside.chronicle.value c.deref_mut.result.now c.deref_mut.ensures.value c.self.invariant.3)
          (g.met.D.Disk.shows_one c.make_round-reply.new.chronicle.disk) (g.met.D.Disk.counts_now c.make_round-reply.new.chronicle.disk) c.make_round-reply.ensures leaves.shared.legal leaves.noted,
    )

pub returns-clause-legal : goal.returns-clause-legal
returns-clause-legal g c =
    (round-leaves _ _ _ _ _ _ _ _ _ _ _ (vec_capacity c.write_if.new.notes) c.args.self.now.log c.args.answers.now (rank_by c.args.policy.now.answers) c.args.seat c.args.call c.make_round-reply.result c.note_of.result
    (shared-as _ c.deref_mut.ensures.value (shared-at _ _ c.self.view_is c.self.invariant.0)) c.requires.policy c.requires.call
    (made-plain g.D.Disk.told c.deref_mut.result.now c.make_round-reply.new.chronicle _ (rank_by c.args.policy.now.answers) c.args.answers.now c.make_round-reply.result c.make_round-reply.ensures)
    c.note_of.ensures c.make_room.ensures.same c.write_if.ensures.written (search rules)).shared.legal

pub returns-clause-log : goal.returns-clause-log
returns-clause-log g c =
    (round-leaves _ _ _ _ _ _ _ _ _ _ _ (vec_capacity c.write_if.new.notes) c.args.self.now.log c.args.answers.now (rank_by c.args.policy.now.answers) c.args.seat c.args.call c.make_round-reply.result c.note_of.result
    (shared-as _ c.deref_mut.ensures.value (shared-at _ _ c.self.view_is c.self.invariant.0)) c.requires.policy c.requires.call
    (made-plain g.D.Disk.told c.deref_mut.result.now c.make_round-reply.new.chronicle _ (rank_by c.args.policy.now.answers) c.args.answers.now c.make_round-reply.result c.make_round-reply.ensures)
    c.note_of.ensures c.make_room.ensures.same c.write_if.ensures.written (search rules)).noted

pub returns-clause-told : goal.returns-clause-told
returns-clause-told g c =
    (round-leaves _ _ _ _ _ _ _ _ _ _ _ (vec_capacity c.write_if.new.notes) c.args.self.now.log c.args.answers.now (rank_by c.args.policy.now.answers) c.args.seat c.args.call c.make_round-reply.result c.note_of.result
    (shared-as _ c.deref_mut.ensures.value (shared-at _ _ c.self.view_is c.self.invariant.0)) c.requires.policy c.requires.call
    (made-plain g.D.Disk.told c.deref_mut.result.now c.make_round-reply.new.chronicle _ (rank_by c.args.policy.now.answers) c.args.answers.now c.make_round-reply.result c.make_round-reply.ensures)
    c.note_of.ensures c.make_room.ensures.same c.write_if.ensures.written (search rules)).told

pub returns-clause-cause : goal.returns-clause-cause
returns-clause-cause g c =
    let fact : OnFailed c.make_round-reply.result (Rose (g.D.Disk.told c.deref_mut.result.now.disk).faults (g.D.Disk.told c.make_round-reply.new.chronicle.disk).faults) =
    rose-of g.D.Disk.told g.M.Marker.opening g.M.Marker.moment g.M.Marker.faults _ (rank_by c.args.policy.now.answers) c.args.answers.now
    c.deref_mut.result.now c.make_round-reply.new.chronicle c.make_round-reply.result c.make_round-reply.ensures in
    search (rules, fact)

pub returns-clause-count : goal.returns-clause-count
returns-clause-count g c =
    let fact : (g.D.Disk.told c.deref_mut.result.now.disk).faults ≤ (g.D.Disk.told c.make_round-reply.new.chronicle.disk).faults =
    grows-of g.D.Disk.told g.M.Marker.opening g.M.Marker.moment g.M.Marker.faults _ (rank_by c.args.policy.now.answers) c.args.answers.now
    c.deref_mut.result.now c.make_round-reply.new.chronicle c.make_round-reply.result c.make_round-reply.ensures in
    search (rules, fact)

pub invariant_of-self : goal.invariant_of-self
invariant_of-self g c =
    grown g.D.Disk.told g.M.Marker.opening g.M.Marker.seats g.M.Marker.moment g.M.Marker.faults g.M.Marker.heard g.M.Marker.stood c.self.inside.chronicle.value c.self.inside.notes.items c.make_room.new.notes.items c.self.inside.halted c.self.inside.spare
    (vec_capacity c.self.inside.notes) (vec_capacity c.make_room.new.notes) c.self.invariant c.make_room.ensures.same (omega (arith, c.self.invariant.0.room, c.make_room.ensures.kept))
