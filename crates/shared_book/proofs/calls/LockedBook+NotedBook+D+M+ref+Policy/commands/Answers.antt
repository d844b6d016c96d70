use Rattle.std.proofs.Common.{sym, ap, ◌∙◌}
use Rattle.shared_book.specs.Told.{list_notes}
use Rattle.shared_book.proofs.Locked.{call-is, count-by, few-by, goes-by}
use Rattle.shared_book.proofs.calls.LockedBook+NotedBook+D+M+ref+Policy.commands.Goals as goal

pub commands-reply-requires : goal.commands-reply-requires
commands-reply-requires g c = record { call = call-is _ c.seat-seat.result c.args.pass.calls _ _ _ _ c.requires.calls c.take-held.ensures.history (ap (λ v. v.log) c.value.ensures.value ∙ c.take-held.ensures.value) c.seat-seat.ensures }

pub give-pass-requires-clause-history : goal.give-pass-requires-clause-history
give-pass-requires-clause-history g c = goes-by _ _ _ _ _ (list_notes c.commands-reply.result) _ c.commands-reply.ensures.log (ap (λ v. v.log) c.value.ensures.value ∙ c.take-held.ensures.value) (c.seat-seat.ensures ∙ c.take-held.ensures.pass.seat)

pub counted_list-calls-requires : goal.counted_list-calls-requires
counted_list-calls-requires g c = few-by c.seat-seat.result c.seat-seat.result c.args.pass.calls _ _ _ (list_notes c.commands-reply.result) _ (call-is _ c.seat-seat.result c.args.pass.calls _ _ _ _ c.requires.calls c.take-held.ensures.history (ap (λ v. v.log) c.value.ensures.value ∙ c.take-held.ensures.value) c.seat-seat.ensures) c.commands-reply.ensures.log c.give-pass.ensures.seen c.seen.result c.seen.ensures

pub returns-clause-calls : goal.returns-clause-calls
returns-clause-calls g c = count-by _ _ c.args.pass.calls _ _ _ (list_notes c.commands-reply.result) _ (call-is _ c.seat-seat.result c.args.pass.calls _ _ _ _ c.requires.calls c.take-held.ensures.history (ap (λ v. v.log) c.value.ensures.value ∙ c.take-held.ensures.value) c.seat-seat.ensures) c.commands-reply.ensures.log c.give-pass.ensures.seen _ c.counted_list-calls.ensures (c.seat-seat.ensures ∙ (c.take-held.ensures.pass.seat ∙ sym c.give-pass.ensures.pass.seat))
