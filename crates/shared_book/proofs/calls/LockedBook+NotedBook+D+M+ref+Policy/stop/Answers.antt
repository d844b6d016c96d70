use Rattle.std.proofs.Common.{◌≡◌, ◌+◌, ◌-◌, ◌≤◌, [], length, sym, ap, ◌∙◌, arith}
use Rattle.shared_book.specs.Notes.{has_asked}
use Rattle.shared_book.proofs.Locked.{call-is, count-by, few-by, goes-by, more-by, stop_notes, stop-noted}
use Rattle.shared_book.proofs.calls.LockedBook+NotedBook+D+M+ref+Policy.stop.Goals as goal

pub stop-halt-requires-clause-call : goal.stop-halt-requires-clause-call
stop-halt-requires-clause-call g c = call-is _ c.seat-seat.result c.args.pass.calls _ _ _ _ c.requires.calls c.take-held.ensures.history (ap (λ v. v.log) (c.value-2.ensures.value ∙ c.value.ensures.value) ∙ c.take-held.ensures.value) c.seat-seat.ensures

pub give-pass-requires-clause-history : goal.give-pass-requires-clause-history
give-pass-requires-clause-history g c = goes-by c.seat-seat.result _ c.value-2.result.now.log _ _ (stop_notes (has_asked c.seat-seat.result c.value-2.result.now.log) c.args.cause) [] (stop-noted c.seat-seat.result c.value-2.result.now.log c.stop-halt.new.self.log c.args.cause c.stop-halt.ensures.log) (ap (λ v. v.log) (c.value-2.ensures.value ∙ c.value.ensures.value) ∙ c.take-held.ensures.value) (c.seat-seat.ensures ∙ c.take-held.ensures.pass.seat)

pub counted_stop-calls-requires-clause-before : goal.counted_stop-calls-requires-clause-before
counted_stop-calls-requires-clause-before g c =
    let more = more-by c.seat-seat.result c.value-2.result.now.log _ _ (stop_notes (has_asked c.seat-seat.result c.value-2.result.now.log) c.args.cause) [] c.count-before.result c.seen.result (stop-noted c.seat-seat.result c.value-2.result.now.log c.stop-halt.new.self.log c.args.cause c.stop-halt.ensures.log) c.give-pass.ensures.seen
    (c.count-before.ensures ∙ ap (λ v. length v.log) (sym c.value-2.ensures.value)) c.seen.ensures in
    omega (arith, more)

pub counted_stop-calls-requires-clause-calls : goal.counted_stop-calls-requires-clause-calls
counted_stop-calls-requires-clause-calls g c =
    let more = more-by c.seat-seat.result c.value-2.result.now.log _ _ (stop_notes (has_asked c.seat-seat.result c.value-2.result.now.log) c.args.cause) [] c.count-before.result c.seen.result (stop-noted c.seat-seat.result c.value-2.result.now.log c.stop-halt.new.self.log c.args.cause c.stop-halt.ensures.log) c.give-pass.ensures.seen
    (c.count-before.ensures ∙ ap (λ v. length v.log) (sym c.value-2.ensures.value)) c.seen.ensures in
    let few = few-by c.seat-seat.result c.seat-seat.result c.args.pass.calls _ _ _ (stop_notes (has_asked c.seat-seat.result c.value-2.result.now.log) c.args.cause) [] (call-is _ c.seat-seat.result c.args.pass.calls _ _ _ _ c.requires.calls c.take-held.ensures.history (ap (λ v. v.log) (c.value-2.ensures.value ∙ c.value.ensures.value) ∙ c.take-held.ensures.value) c.seat-seat.ensures) (stop-noted c.seat-seat.result c.value-2.result.now.log c.stop-halt.new.self.log c.args.cause c.stop-halt.ensures.log) c.give-pass.ensures.seen c.seen.result c.seen.ensures in
    omega (arith, more, few)

pub returns-clause-calls : goal.returns-clause-calls
returns-clause-calls g c =
    let more = more-by c.seat-seat.result c.value-2.result.now.log _ _ (stop_notes (has_asked c.seat-seat.result c.value-2.result.now.log) c.args.cause) [] c.count-before.result c.seen.result (stop-noted c.seat-seat.result c.value-2.result.now.log c.stop-halt.new.self.log c.args.cause c.stop-halt.ensures.log) c.give-pass.ensures.seen
    (c.count-before.ensures ∙ ap (λ v. length v.log) (sym c.value-2.ensures.value)) c.seen.ensures in
    let told = c.counted_stop-calls.ensures in
    count-by _ _ c.args.pass.calls _ _ _ (stop_notes (has_asked c.seat-seat.result c.value-2.result.now.log) c.args.cause) [] (call-is _ c.seat-seat.result c.args.pass.calls _ _ _ _ c.requires.calls c.take-held.ensures.history (ap (λ v. v.log) (c.value-2.ensures.value ∙ c.value.ensures.value) ∙ c.take-held.ensures.value) c.seat-seat.ensures) (stop-noted c.seat-seat.result c.value-2.result.now.log c.stop-halt.new.self.log c.args.cause c.stop-halt.ensures.log) c.give-pass.ensures.seen c.counted_stop-calls.result (omega (arith, more, told)) (c.seat-seat.ensures ∙ (c.take-held.ensures.pass.seat ∙ sym c.give-pass.ensures.pass.seat))
