-- What exchanging operations in flight changes: one more command, answer and answer handed over for each.
use Rattle.std.proofs.Common.{◌≡◌, ℕ, zero, suc, ◌+◌, ◌<◌, ◌≤◌, true, not, List, [], ◌∷◌, length, refl, ap, sym, ◌∙◌, subst, arith, lt-ltb, length-append}
use Rattle.std.proofs.lemmas.Bool.{and_from}
use Rattle.rollout_rules.specs.Wan.{Problem, Plan}
use Rattle.rollout_rules.specs.World.{World, in_flight, is_writing, allows, happens, after_events}
use Rattle.rollout_rules.specs.declared.event.Event.{Event}
use Rattle.rollout_rules.specs.declared.event.Event.TheVariants as event
use Rattle.rollout_laws.proofs.Worlds.{after_events-append}
use Rattle.sim_run.specs.Acts.{exchanges}
use Rattle.sim_run.specs.Rehearsing.{Rehearsing, moved}

-- n commands, answers and answers handed over more
pub record IsExchanged (w v : World) (n : ℕ) : Type 0 where
  pub up : v.up ≡ true
  pub writing : v.writing ≡ []
  pub durable : v.durable ≡ w.durable
  pub sent : length v.sent ≡ length w.sent + n
  pub given : length v.given ≡ length w.given + n

module _ (p : Problem) (plan : Plan) where
  -- one operation in flight
  abbrev pub exchange_events : World → ℕ → List Event
  exchange_events w k = event.Send k ∷ event.Deliver (length w.sent) ∷ event.Hand (length w.given) ∷ []

  pub idle : (w : World) → w.writing ≡ [] → not (is_writing w) ≡ true
  idle w e = rw e

  exchange-keeps : (w : World) (k : ℕ) → w.up ≡ true → w.writing ≡ [] → k < length (in_flight p w.durable) → IsExchanged w (after_events p plan w (exchange_events w k)) 1
  exchange-keeps w k up writing lt =
      let sending : allows p plan w (event.Send k) ≡ true = and_from _ _ (and_from _ _ up (idle w writing)) (lt-ltb k _ lt) in
      let w1 = happens p plan w (event.Send k) in
      let more : length w1.sent ≡ length w.sent + 1 = length-append w.sent _ in
      let delivering : allows p plan w1 (event.Deliver (length w.sent)) ≡ true = lt-ltb (length w.sent) (length w1.sent) (omega arith) in
      let w2 = happens p plan w1 (event.Deliver (length w.sent)) in
      let answers : length w2.given ≡ length w.given + 1 = length-append w.given _ in
      let handing : allows p plan w2 (event.Hand (length w.given)) ≡ true = and_from _ _ up (lt-ltb (length w.given) (length w2.given) (omega arith)) in
      rw (sending, delivering, handing) (record { up = up; writing = writing; durable = refl {a = w.durable}; sent = more; given = answers })

  ends : (w v : World) (n : ℕ) → length v.sent ≡ length w.sent + n → length v.given ≡ length w.given + n
      → (event.Send n ∷ event.Deliver (length w.sent + n) ∷ event.Hand (length w.given + n) ∷ []) ≡ exchange_events v n
  ends w v n a b = cc

  pub more_exchanges : (w : World) (n : ℕ) → IsExchanged w (after_events p plan w (exchanges w n)) n → after_events p plan w (exchanges w (suc n)) ≡ after_events p plan (after_events p plan w (exchanges w n)) (exchange_events (after_events p plan w (exchanges w n)) n)
  more_exchanges w n before =
      let v = after_events p plan w (exchanges w n) in
      after_events-append p plan w (exchanges w n) _ ∙ ap (λ es. after_events p plan v es) (ends w v n before.sent before.given)

  pub exchanges-keep : (w : World) (n : ℕ) → w.up ≡ true → w.writing ≡ [] → n ≤ length (in_flight p w.durable) → IsExchanged w (after_events p plan w (exchanges w n)) n
  exchanges-keep w zero up writing le = record { up = up; writing = writing; durable = refl; sent = omega arith; given = omega arith }
  exchanges-keep w (suc n) up writing le =
      let before = exchanges-keep w n up writing (omega arith) in
      let v = after_events p plan w (exchanges w n) in
      let fits : n < length (in_flight p v.durable) = subst (λ h. n < length (in_flight p h)) (sym before.durable) (omega arith) in
      let one = exchange-keeps v n before.up before.writing fits in
      rw (more_exchanges w n before) (record { up = one.up; writing = one.writing; durable = one.durable ∙ before.durable; sent = omega (arith, one.sent, before.sent); given = omega (arith, one.given, before.given) })

  one_more : (w : World) (n : ℕ) → w.up ≡ true → w.writing ≡ [] → n ≤ length (in_flight p w.durable) → after_events p plan (after_events p plan w (exchanges w n)) (exchange_events (after_events p plan w (exchanges w n)) n) ≡ after_events p plan w (exchanges w (n + 1))
  one_more w n up writing le =
      let e : n + 1 ≡ suc n = omega arith in
      sym (more_exchanges w n (exchanges-keep w n up writing le)) ∙ ap (λ k. after_events p plan w (exchanges w k)) (sym e)

-- the same, of a rehearsal
pub exchanges-on : (r s : Rehearsing) (n : ℕ) → s ≡ moved r (exchanges r.state.world n) → r.state.world.up ≡ true → r.state.world.writing ≡ [] → n ≤ length (in_flight r.rollout.problem r.state.world.durable)
    → moved s (event.Send n ∷ event.Deliver (length s.state.world.sent) ∷ event.Hand (length s.state.world.given) ∷ []) ≡ moved r (exchanges r.state.world (n + 1))
exchanges-on r s n e up writing le =
    subst (λ u. moved u (exchange_events u.rollout.problem u.rollout.plan u.state.world n) ≡ moved r (exchanges r.state.world (n + 1))) (sym e)
    (ap (λ w. record r { state = record r.state { world = w } }) (one_more r.rollout.problem r.rollout.plan r.state.world n up writing le))

-- where the next operation is in flight, and the controller is up
pub record MayExchange (r : Rehearsing) (n : ℕ) : Type 0 where
  pub up : r.state.world.up ≡ true
  pub flying : n < length (in_flight r.rollout.problem r.state.world.durable)

pub may_exchange : (r s : Rehearsing) (n : ℕ) → s ≡ moved r (exchanges r.state.world n) → r.state.world.up ≡ true → r.state.world.writing ≡ [] → n < length (in_flight r.rollout.problem r.state.world.durable) → MayExchange s n
may_exchange r s n e up writing lt =
    let there = exchanges-keep r.rollout.problem r.rollout.plan r.state.world n up writing (omega arith) in
    subst (λ u. MayExchange u n) (sym e) (record { up = there.up; flying = subst (λ h. n < length (in_flight r.rollout.problem h)) (sym there.durable) lt })
