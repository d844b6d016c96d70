use Rattle.std.proofs.Common.{◌≡◌, ℕ, ◌<◌, Option, List, ◌++◌, [], length, get_or, map, set, refl, sym, subst, ap, ap₂, ◌∙◌, arith}
use Rattle.std.proofs.lemmas.List.{get_or-map, length-map}
use Rattle.wan_edge.specs.Frames.{Command}
use Rattle.port_session.specs.Sessions.{SessionView}
use Rattle.port_session.proofs.Chaining.{if_err}
use Rattle.switch_ports.specs.Outboxes.{own}
use Rattle.switch_ports.specs.Offering.{IsOfferCause, Offers, OffersAll}
use Rattle.switch_ports.specs.Rows.{IsCauseOfOffer}
use Rattle.switch_ports.specs.Views.{view}
use Rattle.switch_ports.proofs.Rowed.{SoFar, as_it_was, at_end, at_one, in_all, in_all_with, next, of_one, same_each, same_long, weaker}
use Rattle.switch_ports.proofs.Told.{offers_nothing}
use Rattle.switch_ports.proofs.round.offer_each.Goals as goal

-- what lies ready for a port's switch is its own
own_outbox : {P : Type 0} (homes : List (Option ℕ)) (commands : List Command) (olds news : List (SessionView P)) (place : ℕ) (d : SessionView P) (outbox : List Command) (outboxes : List (List Command)) (switches : List ℕ) (R : SessionView P → SessionView P → Type 0)
    → SoFar R place olds news → place < length news → outbox ≡ get_or outboxes place [] → outboxes ≡ map (λ w. own homes w commands) switches → switches ≡ map (λ s. s.switch) olds
    → outbox ≡ own homes (get_or news place d).switch commands
own_outbox homes commands olds news place d outbox outboxes switches R so inside lies dealt are =
    let within : place < length olds = omega (arith, inside, same_long R place olds news so) in
    let long : length (map (λ s. s.switch) olds) ≡ length olds = length-map olds (λ s. s.switch) in
    lies ∙ ap (λ ls. get_or ls place []) (dealt ∙ ap (map (λ w. own homes w commands)) are)
    ∙ get_or-map (λ w. own homes w commands) (map (λ s. s.switch) olds) place 0 [] (omega (arith, within, long))
    ∙ ap (λ w. own homes w commands) (get_or-map (λ s. s.switch) olds place d 0 within ∙ ap (λ s. s.switch) (sym (as_it_was R place olds news d so)))

pub returns-in-Err-clause-each : goal.returns-in-Err-clause-each
returns-in-Err-clause-each g c =
    let tell = g.T.Port.told in
    same_each (λ a b. Offers c.args.migration (own c.args.homes.now a.switch c.args.commands.now) (view tell a) (view tell b))
    (λ a. offers_nothing c.args.migration (own c.args.homes.now a.switch c.args.commands.now) (view tell a)) c.args.sessions.now

pub loop-place-preserved : goal.loop-place-preserved
loop-place-preserved g c =
    let tell = g.T.Port.told in
    next (λ a b. OffersAll c.args.migration (own c.args.homes.now a.switch c.args.commands.now) (view tell a) (view tell b)) c.loop-place.place c.args.sessions.now c.loop-place.sessions c.offer_at.new.session c.index-sessions-place.result
    c.loop-place.invariant (omega (arith, c.loop-place-test.true, c.loop-place.auto.sessions))
    (subst (λ outbox. OffersAll c.args.migration outbox (view tell (get_or c.loop-place.sessions c.loop-place.place c.index-sessions-place.result)) (view tell c.offer_at.new.session)) (own_outbox c.args.homes.now c.args.commands.now c.args.sessions.now c.loop-place.sessions c.loop-place.place c.index-sessions-place.result c.outbox.result.now c.deal.new.self.outboxes c.args.outboxes.now.switches
    (λ a b. OffersAll c.args.migration (own c.args.homes.now a.switch c.args.commands.now) (view tell a) (view tell b)) c.loop-place.invariant
    (omega (arith, c.loop-place-test.true, c.loop-place.auto.sessions)) c.outbox.ensures c.in_default.ensures.ok c.requires) c.in_ok-offer_at.ensures.all)

pub returns-in_err-offer_at-clause-each : goal.returns-in_err-offer_at-clause-each
returns-in_err-offer_at-clause-each g c =
    let tell = g.T.Port.told in
    in_all_with (λ a b. OffersAll c.args.migration (own c.args.homes.now a.switch c.args.commands.now) (view tell a) (view tell b))
    (λ a b. Offers c.args.migration (own c.args.homes.now a.switch c.args.commands.now) (view tell a) (view tell b)) (λ a b all. all.some)
    (λ a. offers_nothing c.args.migration (own c.args.homes.now a.switch c.args.commands.now) (view tell a)) c.loop-place.place c.args.sessions.now c.loop-place.sessions c.offer_at.new.session c.index-sessions-place.result
    c.loop-place.invariant (omega (arith, c.loop-place-test.true, c.loop-place.auto.sessions))
    (subst (λ outbox. Offers c.args.migration outbox (view tell (get_or c.loop-place.sessions c.loop-place.place c.index-sessions-place.result)) (view tell c.offer_at.new.session)) (own_outbox c.args.homes.now c.args.commands.now c.args.sessions.now c.loop-place.sessions c.loop-place.place c.index-sessions-place.result c.outbox.result.now c.deal.new.self.outboxes c.args.outboxes.now.switches
    (λ a b. OffersAll c.args.migration (own c.args.homes.now a.switch c.args.commands.now) (view tell a) (view tell b)) c.loop-place.invariant
    (omega (arith, c.loop-place-test.true, c.loop-place.auto.sessions)) c.outbox.ensures c.in_default.ensures.ok c.requires) c.offer_at.ensures.some)

pub returns-in_err-offer_at-clause-cause : goal.returns-in_err-offer_at-clause-cause
returns-in_err-offer_at-clause-cause g c =
    let tell = g.T.Port.told in
    let why = c.in_err-offer_at.field-0.0 in
    let now = set c.loop-place.sessions c.loop-place.place c.offer_at.new.session in
    if_err c.from_residual.result why (λ w. IsCauseOfOffer tell w c.args.sessions.now now) c.from_residual.ensures.1
    (of_one (λ a b. IsOfferCause why (view tell a) (view tell b)) why c.args.sessions.now now
    (at_one (λ a b. OffersAll c.args.migration (own c.args.homes.now a.switch c.args.commands.now) (view tell a) (view tell b)) (λ a b. IsOfferCause why (view tell a) (view tell b)) c.loop-place.place c.args.sessions.now c.loop-place.sessions c.offer_at.new.session c.index-sessions-place.result
    c.loop-place.invariant (omega (arith, c.loop-place-test.true, c.loop-place.auto.sessions)) c.in_err-offer_at.ensures.cause))

pub returns-clause-each : goal.returns-clause-each
returns-clause-each g c =
    let tell = g.T.Port.told in
    in_all (λ a b. Offers c.args.migration (own c.args.homes.now a.switch c.args.commands.now) (view tell a) (view tell b))
    (λ a. offers_nothing c.args.migration (own c.args.homes.now a.switch c.args.commands.now) (view tell a)) c.loop-place.place c.args.sessions.now c.loop-place.sessions
    (weaker (λ a b. OffersAll c.args.migration (own c.args.homes.now a.switch c.args.commands.now) (view tell a) (view tell b))
    (λ a b. Offers c.args.migration (own c.args.homes.now a.switch c.args.commands.now) (view tell a) (view tell b)) (λ a b all. all.some) c.loop-place.place c.args.sessions.now c.loop-place.sessions c.loop-place.invariant)

pub returns-clause-all : goal.returns-clause-all
returns-clause-all g c =
    let tell = g.T.Port.told in
    at_end (λ a b. OffersAll c.args.migration (own c.args.homes.now a.switch c.args.commands.now) (view tell a) (view tell b)) c.loop-place.place c.args.sessions.now c.loop-place.sessions
    c.loop-place.invariant (omega (arith, c.loop-place-test.false, c.loop-place.auto.sessions))
