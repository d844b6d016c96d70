-- Exchanging all that is in flight hands an answer over to each of these operations that covers it.
use Rattle.std.proofs.Common.{◌≡◌, ℕ, zero, suc, ◌+◌, ◌<◌, ◌≤◌, ◌⊎◌, true, ◌&&◌, ◌||◌, ◌==◌, nat_le, List, [], ◌∷◌, ◌++◌, length, get_or, refl, sym, ap, ◌∙◌, subst, inl, inr, arith, eq-eqb, le-leb, lt-ltb, append_assoc, append-nil, length-append}
use Rattle.std.proofs.lemmas.Bool.{and_from, cases_lt, cond-true, or_left, or_right}
use Rattle.std.proofs.lemmas.List.{get_or_push}
use Rattle.std.proofs.lemmas.List.Folds.{list_any-append}
use Rattle.rollout_rules.specs.Wan.{Plan, Problem}
use Rattle.rollout_rules.specs.World.{World, allows, after_event, after_events, happens, held_of, in_flight, is_answered, no_answer, no_op, now}
use Rattle.rollout_rules.specs.declared.held.Given.{Given}
use Rattle.rollout_rules.specs.declared.op.Op.{Op}
use Rattle.rollout_rules.specs.declared.op.Entry.TheVariants.{Done}
use Rattle.rollout_rules.specs.declared.event.Event.TheVariants as event
use Rattle.rollout_laws.specs.Kept.{IsBegun, IsKept}
use Rattle.rollout_laws.specs.SafeWorlds.{IsApplied, with_answer}
use Rattle.rollout_laws.proofs.Delivery.{sent-applied, sent-repeated, sent_are_commands}
use Rattle.rollout_laws.proofs.Durable.{goes_on_from}
use Rattle.rollout_laws.proofs.Keeping.{kept-Send}
use Rattle.rollout_laws.proofs.Pairs.{number-other, number-same}
use Rattle.rollout_laws.proofs.Worlds.{after_events_is_kept}
use Rattle.sim_run.specs.Acts.{exchanges}
use Rattle.sim_run.proofs.Exchanges.{exchange_events, exchanges-keep, idle, more_exchanges}

-- an answer of a migration that covers an operation
covering : (migration : ℕ) (op : Op) (a : Given) → a.item ≡ op.item → a.held.migration ≡ migration → op.number ≤ a.held.number → is_answered migration (a ∷ []) (Done op) ≡ true
covering migration op a item same number = or_left _ _ (and_from _ _ (and_from _ _ (eq-eqb a.item op.item item) (eq-eqb a.held.migration migration same)) (le-leb op.number a.held.number number))

-- a world with one answer more, which covers the operation
record HasAnswered (v after : World) (op : Op) : Type 0 where
  pub answer : Given
  pub given : after.given ≡ v.given ++ answer ∷ []
  pub covers : is_answered v.migration (answer ∷ []) (Done op) ≡ true

module _ (p : Problem) (plan : Plan) where
  -- a command that was sent comes to its switch
  module _ (v : World) (kept : IsKept p plan v) (n : ℕ) (lt : n < length v.sent) where
    abbrev command : Op
    command = get_or v.sent n no_op

    abbrev then : World
    then = after_event p plan v (event.Deliver n)

    begun : IsBegun v.durable command
    begun = kept.sent n no_op lt

    was-applied : IsApplied p plan v command then → HasAnswered v then command
    was-applied is = record {
      answer = record { item = command.item; held = record { migration = v.migration; number = command.number } };
      given = is.given;
      covers = covering v.migration command _ refl refl (omega arith);
    }

    was-repeated : then ≡ with_answer v command.item → command.number ≤ now v command.item → ((held_of v command.item).held.migration ≡ v.migration) ⊎ ((held_of v command.item).held.migration < v.migration) → HasAnswered v then command
    was-repeated is le (inl same) = record {
      answer = record { item = command.item; held = (held_of v command.item).held };
      given = ap (λ (w : World). w.given) is;
      covers = covering v.migration command _ refl same (omega (arith, le, number-same v.migration (get_or v.durable.start command.item 0) (held_of v command.item).held same));
    }
    was-repeated is le (inr earlier) =
        absurd (omega (arith, le, begun.low, number-other v.migration (get_or v.durable.start command.item 0) (held_of v command.item).held (λ e. omega (arith, e, earlier))))

    held-pair : ((held_of v command.item).held.migration ≡ v.migration) ⊎ ((held_of v command.item).held.migration < v.migration)
    held-pair = elim (kept.held command.item (sent_are_commands p plan v kept n no_op lt).item).pair as (λ _. ((held_of v command.item).held.migration ≡ v.migration) ⊎ ((held_of v command.item).held.migration < v.migration)) [
      | inl same ↦ inl same
      | inr first ↦ inr first.earlier
    ]

    is-answered : HasAnswered v then command
    is-answered = elim (cases_lt (now v command.item) command.number) as (λ _. HasAnswered v then command) [
      | inl next ↦ was-applied (sent-applied p plan v kept n lt next)
      | inr le ↦ was-repeated (sent-repeated p plan v kept n lt le) le held-pair
    ]

  -- one operation in flight is exchanged
  record HasHanded (v after : World) (op : Op) : Type 0 where
    pub answer : Given
    pub handed : after.handed ≡ v.handed ++ answer ∷ []
    pub covers : is_answered v.migration (answer ∷ []) (Done op) ≡ true

  one-answered : (v : World) → IsKept p plan v → v.up ≡ true → v.writing ≡ [] → (k : ℕ) → k < length (in_flight p v.durable)
      → HasHanded v (after_events p plan v (exchange_events p plan v k)) (get_or (in_flight p v.durable) k no_op)
  one-answered v kept up writing k lt =
      let op = get_or (in_flight p v.durable) k no_op in
      let sending : allows p plan v (event.Send k) ≡ true = and_from _ _ (and_from _ _ up (idle p plan v writing)) (lt-ltb k _ lt) in
      let w1 = happens p plan v (event.Send k) in
      let more : length w1.sent ≡ length v.sent + 1 = length-append v.sent _ in
      let there : length v.sent < length w1.sent = omega (arith, more) in
      let delivering : allows p plan w1 (event.Deliver (length v.sent)) ≡ true = lt-ltb (length v.sent) (length w1.sent) there in
      let w2 = happens p plan w1 (event.Deliver (length v.sent)) in
      let own : get_or w1.sent (length v.sent) no_op ≡ op = get_or_push v.sent op no_op (length v.sent) refl in
      let said = is-answered w1 (kept-Send p plan v kept k sending) (length v.sent) there in
      let comes : after_event p plan w1 (event.Deliver (length v.sent)) ≡ w2 = cond-true (allows p plan w1 (event.Deliver (length v.sent))) w2 w1 delivering in
      let given : w2.given ≡ v.given ++ said.answer ∷ [] = ap (λ (w : World). w.given) (sym comes) ∙ said.given in
      let last : length v.given < length w2.given = omega (arith, ap length given, length-append v.given (said.answer ∷ [])) in
      let handing : allows p plan w2 (event.Hand (length v.given)) ≡ true = and_from _ _ up (lt-ltb (length v.given) (length w2.given) last) in
      let at : get_or w2.given (length v.given) no_answer ≡ said.answer = ap (λ l. get_or l (length v.given) no_answer) given ∙ get_or_push v.given said.answer no_answer (length v.given) refl in
      rw (sending, delivering, handing) (record {
        answer = said.answer;
        handed = ap (λ a. v.handed ++ a ∷ []) at;
        covers = subst (λ o. is_answered v.migration (said.answer ∷ []) (Done o) ≡ true) own said.covers;
      })

-- of the first so many operations in flight each has an answer among those handed over since
pub record AreAnswered (p : Problem) (w v : World) (n : ℕ) : Type 0 where
  pub new : List Given
  pub handed : v.handed ≡ w.handed ++ new
  pub each : (k : ℕ) → k < n → is_answered w.migration new (Done (get_or (in_flight p w.durable) k no_op)) ≡ true

module _ (p : Problem) (plan : Plan) (w : World) (kept : IsKept p plan w) (up : w.up ≡ true) (writing : w.writing ≡ []) where
  pub are-answered : (n : ℕ) → n ≤ length (in_flight p w.durable) → AreAnswered p w (after_events p plan w (exchanges w n)) n
  are-answered zero le = record { new = []; handed = sym (append-nil w.handed); each = λ k lt. absurd (omega (arith, lt)) }
  are-answered (suc n) le =
      let was = are-answered n (omega (arith, le)) in
      let before = exchanges-keep p plan w n up writing (omega (arith, le)) in
      let v = after_events p plan w (exchanges w n) in
      let same : v.migration ≡ w.migration = (goes_on_from p plan w (exchanges w n)).migration in
      let fits : n < length (in_flight p v.durable) = subst (λ h. n < length (in_flight p h)) (sym before.durable) (omega (arith, le)) in
      let one = one-answered p plan v (after_events_is_kept p plan w kept (exchanges w n)) before.up before.writing n fits in
      let covers : is_answered w.migration (one.answer ∷ []) (Done (get_or (in_flight p w.durable) n no_op)) ≡ true =
      subst (λ m. is_answered m (one.answer ∷ []) (Done (get_or (in_flight p w.durable) n no_op)) ≡ true) same
      (subst (λ h. is_answered v.migration (one.answer ∷ []) (Done (get_or (in_flight p h) n no_op)) ≡ true) before.durable one.covers) in
      record {
        new = was.new ++ one.answer ∷ [];
        handed = ap (λ (x : World). x.handed) (more_exchanges p plan w n before) ∙ one.handed ∙ ap (λ l. l ++ one.answer ∷ []) was.handed ∙ append_assoc w.handed was.new (one.answer ∷ []);
        each = λ k lt.
            let op = get_or (in_flight p w.durable) k no_op in
            list_any-append (λ (a : Given). (a.item == op.item) && (a.held.migration == w.migration) && nat_le op.number a.held.number) was.new (one.answer ∷ [])
            ∙ elim (cases_lt k n) as (λ _. (is_answered w.migration was.new (Done op) || is_answered w.migration (one.answer ∷ []) (Done op)) ≡ true) [
              | inl low ↦ or_left _ _ (was.each k low)
              | inr high ↦
                  let here : n ≡ k = omega (arith, lt, high) in
                  or_right _ _ (subst (λ j. is_answered w.migration (one.answer ∷ []) (Done (get_or (in_flight p w.durable) j no_op)) ≡ true) here covers)
            ];
      }
