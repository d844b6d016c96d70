use Rattle.std.proofs.Common.{◌<◌, All, ap, sym, ◌∙◌, subst}
use Rattle.turn_lock.proofs.Seating.{closes, same_value, no_value}
use Rattle.turn_lock.proofs.lock.TurnLock.close.Goals as goal

pub unreachable-requires : goal.unreachable-requires
unreachable-requires g c = let p = c.args.pass in let e = closes _ _ _ _ _ _ p.idle c.requires.first c.requires.all_in c.close_with-closed.ensures.values.2 in
    no_value _ _ _ e.1 c.take-slot.ensures.value c.in-None.is

pub returns-clause-history : goal.returns-clause-history
returns-clause-history g c = let p = c.args.pass in let e = closes _ _ _ _ _ _ p.idle c.requires.first c.requires.all_in c.close_with-closed.ensures.values.2 in
    ap g.V.Counted.history (sym (same_value _ _ _ _ e.1 c.take-slot.ensures.value c.in-Some.is)) ∙ e.2

pub returns-clause-made : goal.returns-clause-made
returns-clause-made g c = let p = c.args.pass in let e = closes _ _ _ _ _ _ p.idle c.requires.first c.requires.all_in c.close_with-closed.ensures.values.2 in
    subst (λ v. All (λ e. g.V.Counted.seat_of e < p.place.me.0.given) (g.V.Counted.history v)) (same_value _ _ _ _ e.1 c.take-slot.ensures.value c.in-Some.is) e.3
