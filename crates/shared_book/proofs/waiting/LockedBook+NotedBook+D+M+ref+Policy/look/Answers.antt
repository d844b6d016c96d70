use Rattle.std.proofs.Common.{sym, ap, ◌∙◌}
use Rattle.shared_book.specs.Waking.{wake_notes}
use Rattle.shared_book.proofs.Locked.{call-is, count-by, few-by, goes-by}
use Rattle.shared_book.proofs.waiting.LockedBook+NotedBook+D+M+ref+Policy.look.Goals as goal

pub look-woken-requires-clause-call : goal.look-woken-requires-clause-call
look-woken-requires-clause-call g c = call-is _ c.seat-seat.result c.args.pass.calls _ _ _ _ c.requires.calls c.take-held.ensures.history (ap (λ v. v.log) c.value.ensures.value ∙ c.take-held.ensures.value) c.seat-seat.ensures

pub give-pass-requires-clause-history : goal.give-pass-requires-clause-history
give-pass-requires-clause-history g c = goes-by _ _ _ _ _ (wake_notes c.look-woken.result) _ c.look-woken.ensures.log (ap (λ v. v.log) c.value.ensures.value ∙ c.take-held.ensures.value) (c.seat-seat.ensures ∙ c.take-held.ensures.pass.seat)

pub counted_look-calls-requires : goal.counted_look-calls-requires
counted_look-calls-requires g c = few-by c.seat-seat.result c.seat-seat.result c.args.pass.calls _ _ _ (wake_notes c.look-woken.result) _ (call-is _ c.seat-seat.result c.args.pass.calls _ _ _ _ c.requires.calls c.take-held.ensures.history (ap (λ v. v.log) c.value.ensures.value ∙ c.take-held.ensures.value) c.seat-seat.ensures) c.look-woken.ensures.log c.give-pass.ensures.seen c.seen.result c.seen.ensures

pub returns-clause-calls : goal.returns-clause-calls
returns-clause-calls g c = count-by _ _ c.args.pass.calls _ _ _ (wake_notes c.look-woken.result) _ (call-is _ c.seat-seat.result c.args.pass.calls _ _ _ _ c.requires.calls c.take-held.ensures.history (ap (λ v. v.log) c.value.ensures.value ∙ c.take-held.ensures.value) c.seat-seat.ensures) c.look-woken.ensures.log c.give-pass.ensures.seen _ c.counted_look-calls.ensures (c.seat-seat.ensures ∙ (c.take-held.ensures.pass.seat ∙ sym c.give-pass.ensures.pass.seat))
