use Rattle.std.proofs.Common.{sym, ap, ◌∙◌, subst}
use Rattle.std.specs.List.{All}
use Rattle.shared_book.specs.Told.{round_notes}
use Rattle.shared_book.proofs.Locked.{call-is, count-by, few-by, goes-by}
use Rattle.shared_book.proofs.calls.LockedBook+NotedBook+D+M+ref+Policy.round.Goals as goal

pub round-reply-requires-clause-call : goal.round-reply-requires-clause-call
round-reply-requires-clause-call g c = call-is _ c.seat-seat.result c.args.pass.calls _ _ _ _ c.requires.calls c.take-held.ensures.history (ap (λ v. v.log) c.value.ensures.value ∙ c.take-held.ensures.value) c.seat-seat.ensures

pub give-pass-requires-clause-history : goal.give-pass-requires-clause-history
give-pass-requires-clause-history g c = goes-by _ _ _ _ _ (round_notes c.round-reply.result) _ c.round-reply.ensures.log (ap (λ v. v.log) c.value.ensures.value ∙ c.take-held.ensures.value) (c.seat-seat.ensures ∙ c.take-held.ensures.pass.seat)

pub counted_round-calls-requires : goal.counted_round-calls-requires
counted_round-calls-requires g c = few-by c.seat-seat.result c.seat-seat.result c.args.pass.calls _ _ _ (round_notes c.round-reply.result) _ (call-is _ c.seat-seat.result c.args.pass.calls _ _ _ _ c.requires.calls c.take-held.ensures.history (ap (λ v. v.log) c.value.ensures.value ∙ c.take-held.ensures.value) c.seat-seat.ensures) c.round-reply.ensures.log c.give-pass.ensures.seen c.seen.result c.seen.ensures

pub returns-clause-calls : goal.returns-clause-calls
returns-clause-calls g c = count-by _ _ c.args.pass.calls _ _ _ (round_notes c.round-reply.result) _ (call-is _ c.seat-seat.result c.args.pass.calls _ _ _ _ c.requires.calls c.take-held.ensures.history (ap (λ v. v.log) c.value.ensures.value ∙ c.take-held.ensures.value) c.seat-seat.ensures) c.round-reply.ensures.log c.give-pass.ensures.seen _ c.counted_round-calls.ensures (c.seat-seat.ensures ∙ (c.take-held.ensures.pass.seat ∙ sym c.give-pass.ensures.pass.seat))

pub round-reply-requires-clause-heard : goal.round-reply-requires-clause-heard
round-reply-requires-clause-heard g c =
    subst (All g.M.Marker.heard) (sym c.answers-told.ensures.answers)
    (λ k d inside. let was = c.answers-told.ensures.heard k d inside in c.requires.told was.port _ was.told)
