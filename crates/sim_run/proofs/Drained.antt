-- A drain of a trial ends finished within its turns, where the policy holds nothing back.
use Rattle.std.proofs.Common.{◌≡◌, ℕ, zero, suc, ◌+◌, ◌<◌, ◌≤◌, ◌⊎◌, true, false, not, ◌&&◌, ◌==◌, nat_le, List, [], ◌∷◌, ◌++◌, length, drop, get_or, Option, Some, None, IfSome, refl, sym, ap, ◌∙◌, subst, inl, inr, arith, eqb-true, eq-eqb, le-leb, length-append}
use Rattle.std.proofs.lemmas.Bool.{and_from, cases_Bool, cond_both, cond-true, or_right}
use Rattle.std.proofs.lemmas.List.{drop-append-le}
use Rattle.std.proofs.lemmas.List.Folds.{list_any-append}
use Rattle.rand_pcg.specs.Lcg.{Lcg}
use Rattle.rollout_rules.specs.declared.limits.TheConstants.{MOST_SENT}
use Rattle.rollout_rules.specs.Wan.{Plan, Problem}
use Rattle.rollout_rules.specs.Network.{IsNetwork}
use Rattle.rollout_rules.specs.Valid.{is_valid_plan}
use Rattle.rollout_rules.specs.Items.{item_count}
use Rattle.rollout_rules.specs.History.{History, begun, flies, settled, with_entries}
use Rattle.rollout_rules.specs.Legal as legal
use Rattle.rollout_rules.specs.Release.{is_covered, next_op}
use Rattle.rollout_rules.specs.World.{World, after_event, after_events, allows, answers_of, happens, in_flight, is_answered, no_answer}
use Rattle.rollout_rules.specs.declared.held.Given.{Given}
use Rattle.rollout_rules.specs.declared.op.OpView.{OpView}
use Rattle.rollout_rules.specs.declared.op.Entry.{Entry}
use Rattle.rollout_rules.specs.declared.op.Entry.TheVariants.{Done}
use Rattle.rollout_rules.specs.declared.event.Event.{Event}
use Rattle.rollout_rules.specs.declared.event.Event.TheVariants as event
use Rattle.rollout_rules.specs.declared.event.Act.{Act}
use Rattle.rollout_rules.specs.declared.event.Act.TheVariants as act
use Rattle.rollout_rules.specs.Legal.{unsettled}
use Rattle.rollout_laws.specs.Kept.{IsKept}
use Rattle.rollout_laws.specs.Waiting.{HoldsNothing}
use Rattle.rollout_laws.proofs.Released.{release-goes_on}
use Rattle.rollout_laws.proofs.Rounds.{batch_is_legal, covers-answers_of}
use Rattle.rollout_laws.proofs.Durable.{goes_on_from}
use Rattle.rollout_laws.proofs.Keeping.{kept-Restart}
use Rattle.rollout_laws.proofs.Worlds.{after_events_is_kept, every_new_world_is_kept}
use Rattle.sim_run.specs.Acts.{Rehearsal, acted, after_act, can_happen, exchanges, first_rehearsal, may_send, round_batch, unheard, write_whole}
use Rattle.sim_run.specs.Rehearsed.{schedule_of}
use Rattle.sim_run.specs.Trials.{Trial, after_trial, after_turn, all_operations, drained, end_of_trial, is_finished, next_act, raised, with_act}
use Rattle.sim_run.proofs.Answering.{AreAnswered, are-answered}
use Rattle.sim_run.proofs.Drawing.{is_script}
use Rattle.sim_run.proofs.Draining.{drained-more, drained-no_more}
use Rattle.sim_run.proofs.Exchanges.{IsExchanged, exchanges-keep}
use Rattle.sim_run.proofs.Finishing.{between, finished-later, flying, flying-counted, flying-place, flying-unsettled, later, legal-between, none-flies, some-flies, unsettled-few, unsettled-less}
use Rattle.sim_run.proofs.Newest.{is_single, next-single, trial-few}
use Rattle.sim_run.proofs.Schedules.{acts-scheduled}
use Rattle.sim_run.proofs.Turns.{written, stopped}
use Rattle.sim_run.proofs.Writable.{batch_may_be_written}

-- a rehearsal between two acts: nothing is being written, and no more was heard than was handed over
pub record IsResting (r : Rehearsal) : Type 0 where
  pub idle : r.world.writing ≡ []
  pub heard : r.heard ≤ length r.world.handed

-- a rehearsal whose controller is up, with room for a command for each operation that is left
pub record IsReady (p : Problem) (plan : Plan) (r : Rehearsal) : Type 0 where
  pub kept : IsKept p plan r.world
  pub up : r.world.up ≡ true
  pub resting : IsResting r
  pub room : length r.world.sent + unsettled p plan r.world.durable ≤ MOST_SENT

-- a turn settled what was in flight, and something flies again unless nothing is left
pub record HasTurned (p : Problem) (plan : Plan) (r s : Rehearsal) : Type 0 where
  pub ready : IsReady p plan s
  pub less : unsettled p plan r.world.durable ≡ unsettled p plan s.world.durable + flying p r.world.durable
  pub more : (unsettled p plan s.world.durable ≡ 0) ⊎ (0 < flying p s.world.durable)

-- the answers handed over since the last round cover what is in flight
is-covered : (h : History) (migration : ℕ) (handed : List Given) (n : ℕ) → flies h n ≡ true → is_answered migration handed (Done (next_op h n)) ≡ true → is_covered h (answers_of migration handed) n ≡ true
is-covered h migration handed n flying answered =
    let same : begun h n ≡ settled h n + 1 = eqb-true (begun h n) (settled h n + 1) flying in
    rw (flying, same) (covers-answers_of migration (next_op h n) handed ∙ answered)

module _ (p : Problem) (plan : Plan) (policy : OpView → ℕ) (net : IsNetwork p) (valid : is_valid_plan p plan ≡ true) (free : HoldsNothing policy) where
  -- ---- the round of a turn
  module _ (r : Rehearsal) (kept : IsKept p plan r.world) (up : r.world.up ≡ true) (idle : r.world.writing ≡ [])
      (all : (n : ℕ) → n < item_count p → flies r.world.durable n ≡ true → is_covered r.world.durable (unheard r) n ≡ true) where
    abbrev entries : List Entry
    entries = round_batch p plan policy r

    abbrev after_round : Rehearsal
    after_round = after_act p plan policy r act.Round

    round-is : after_round ≡ record { world = record r.world { durable = with_entries r.world.durable entries; writing = [] }; heard = length r.world.handed }
    round-is =
        cond-true r.world.up (acted p plan policy r act.Round) r up
        ∙ ap (λ (w : World). record { world = w; heard = length r.world.handed }) (written p plan r.world idle entries (batch_may_be_written p plan policy r.world r.heard up idle))

    round-kept : IsKept p plan after_round.world
    round-kept = cond_both r.world.up (acted p plan policy r act.Round) r (λ (s : Rehearsal). IsKept p plan s.world) (λ _. after_events_is_kept p plan r.world kept (write_whole entries)) (λ _. kept)

    follows : legal.is_legal p plan (later p plan policy r.world.durable kept.legal (unheard r) all) ≡ true
    follows = batch_is_legal p plan policy r.world.durable (unheard r) kept.legal

    abbrev middle : History
    middle = between p plan policy r.world.durable kept.legal (unheard r) all

    goes-on : (unsettled p plan (with_entries r.world.durable entries) ≡ 0) ⊎ (0 < flying p (with_entries r.world.durable entries))
    goes-on = elim (cases_Bool (legal.is_finished p plan middle)) as (λ _. (unsettled p plan (with_entries r.world.durable entries) ≡ 0) ⊎ (0 < flying p (with_entries r.world.durable entries))) [
      | inl finished ↦ inl (finished-later p plan policy r.world.durable kept.legal (unheard r) all follows finished)
      | inr unfinished ↦ inr (some-flies p plan policy r.world.durable kept.legal (unheard r) all follows
          (release-goes_on p plan policy middle net valid (legal-between p plan policy r.world.durable kept.legal (unheard r) all follows) unfinished (none-flies p plan policy r.world.durable kept.legal (unheard r) all) free))
    ]

    round-turns : length r.world.sent + unsettled p plan (with_entries r.world.durable entries) ≤ MOST_SENT → HasTurned p plan r after_round
    round-turns room =
        let durable : after_round.world.durable ≡ with_entries r.world.durable entries = ap (λ (s : Rehearsal). s.world.durable) round-is in
        record {
          ready = record {
            kept = round-kept;
            up = ap (λ (s : Rehearsal). s.world.up) round-is ∙ up;
            resting = subst IsResting (sym round-is) (record { idle = refl; heard = omega arith });
            room = subst (λ (s : Rehearsal). length s.world.sent + unsettled p plan s.world.durable ≤ MOST_SENT) (sym round-is) room;
          };
          less = unsettled-less p plan policy r.world.durable kept.legal (unheard r) all ∙ ap (λ h. unsettled p plan h + flying p r.world.durable) (sym durable);
          more = subst (λ h. (unsettled p plan h ≡ 0) ⊎ (0 < flying p h)) (sym durable) goes-on;
        }

  -- ---- a turn
  module _ (r : Rehearsal) (ready : IsReady p plan r) where
    abbrev count : ℕ
    count = length (in_flight p r.world.durable)

    abbrev world : World
    world = after_events p plan r.world (exchanges r.world count)

    abbrev exchanged : Rehearsal
    exchanged = record { world = world; heard = r.heard }

    may-send : may_send r.world count ≡ true
    may-send = le-leb (length r.world.sent + count) MOST_SENT (omega (arith, ready.room, flying-unsettled p r.world.durable plan ready.kept.legal, flying-counted p r.world.durable))

    all-is : after_act p plan policy r act.All ≡ exchanged
    all-is = cond-true (can_happen p r act.All) (acted p plan policy r act.All) r (and_from _ _ ready.up may-send)

    passed : IsExchanged r.world world count
    passed = exchanges-keep p plan r.world count ready.up ready.resting.idle (omega arith)

    answered : AreAnswered p r.world world count
    answered = are-answered p plan r.world ready.kept ready.up ready.resting.idle count (omega arith)

    new-handed : drop r.heard world.handed ≡ drop r.heard r.world.handed ++ answered.new
    new-handed = ap (drop r.heard) answered.handed ∙ drop-append-le r.heard r.world.handed answered.new ready.resting.heard

    covered : (n : ℕ) → n < item_count p → flies world.durable n ≡ true → is_covered world.durable (unheard exchanged) n ≡ true
    covered n lt flying =
        let same : world.migration ≡ r.world.migration = (goes_on_from p plan r.world (exchanges r.world count)).migration in
        let was : flies r.world.durable n ≡ true = subst (λ h. flies h n ≡ true) passed.durable flying in
        let place = flying-place p r.world.durable n lt was in
        let one : is_answered r.world.migration answered.new (Done (next_op r.world.durable n)) ≡ true =
        subst (λ o. is_answered r.world.migration answered.new (Done o) ≡ true) place.2 (answered.each place.0 place.1) in
        let op = next_op r.world.durable n in
        let more : is_answered r.world.migration (drop r.heard r.world.handed ++ answered.new) (Done op) ≡ true =
        list_any-append (λ (a : Given). (a.item == op.item) && (a.held.migration == r.world.migration) && nat_le op.number a.held.number) (drop r.heard r.world.handed) answered.new ∙ or_right _ _ one in
        is-covered world.durable world.migration (drop r.heard world.handed) n flying
        (subst (λ m. is_answered m (drop r.heard world.handed) (Done (next_op world.durable n)) ≡ true) (sym same)
        (subst (λ h. is_answered r.world.migration (drop r.heard world.handed) (Done (next_op h n)) ≡ true) (sym passed.durable)
        (subst (λ l. is_answered r.world.migration l (Done (next_op r.world.durable n)) ≡ true) (sym new-handed) more)))

    turns : HasTurned p plan r (after_turn p plan policy r)
    turns =
        let kept = after_events_is_kept p plan r.world ready.kept (exchanges r.world count) in
        let less = unsettled-less p plan policy world.durable kept.legal (unheard exchanged) covered in
        let was : unsettled p plan world.durable ≡ unsettled p plan r.world.durable = ap (unsettled p plan) passed.durable in
        let flew : flying p world.durable ≡ flying p r.world.durable = ap (flying p) passed.durable in
        let turned = round-turns exchanged kept passed.up passed.writing covered (omega (arith, passed.sent, ready.room, less, was, flew, flying-counted p r.world.durable)) in
        subst (λ s. HasTurned p plan r (after_act p plan policy s act.Round)) (sym all-is)
        (record { ready = turned.ready; less = sym was ∙ turned.less ∙ ap (λ k. unsettled p plan (after_act p plan policy exchanged act.Round).world.durable + k) flew; more = turned.more })

  -- ---- so many turns end it
  drains : (k : ℕ) (r : Rehearsal) → IsReady p plan r → unsettled p plan r.world.durable ≤ k → (unsettled p plan r.world.durable ≡ 0) ⊎ (0 < flying p r.world.durable) → is_finished p plan (drained p plan policy k r) ≡ true
  drains k r ready few (inl none) =
      let finished : is_finished p plan r ≡ true = eq-eqb (unsettled p plan r.world.durable) 0 none in
      subst (λ s. is_finished p plan s ≡ true) (sym (drained-no_more p plan policy k r finished)) finished
  drains zero r ready few (inr some) = eq-eqb (unsettled p plan r.world.durable) 0 (omega (arith, few))
  drains (suc k) r ready few (inr some) =
      let turned = turns r ready in
      elim (cases_Bool (is_finished p plan r)) as (λ _. is_finished p plan (drained p plan policy (suc k) r) ≡ true) [
        | inl finished ↦ subst (λ s. is_finished p plan s ≡ true) (sym (drained-no_more p plan policy (suc k) r finished)) finished
        | inr unfinished ↦ subst (λ s. is_finished p plan s ≡ true) (sym (drained-more p plan policy k r unfinished)) (drains k (after_turn p plan policy r) turned.ready (omega (arith, few, some, turned.less)) turned.more)
      ]

  pub drain-ends : (most : ℕ) (r : Rehearsal) → IsReady p plan r → unsettled p plan r.world.durable ≤ most → is_finished p plan (drained p plan policy (most + 1) r) ≡ true
  drain-ends most r ready few =
      let one : most + 1 ≡ suc most = omega arith in
      let turned = turns r ready in
      subst (λ k. is_finished p plan (drained p plan policy k r) ≡ true) (sym one) (elim (cases_Bool (is_finished p plan r)) as (λ _. is_finished p plan (drained p plan policy (suc most) r) ≡ true) [
        | inl finished ↦ subst (λ s. is_finished p plan s ≡ true) (sym (drained-no_more p plan policy (suc most) r finished)) finished
        | inr unfinished ↦ subst (λ s. is_finished p plan s ≡ true) (sym (drained-more p plan policy most r unfinished)) (drains most (after_turn p plan policy r) turned.ready (omega (arith, few, turned.less)) turned.more)
      ])

-- ---- a trial's events leave the rehearsal at rest
module _ (p : Problem) (plan : Plan) where
  -- an event that is neither a write nor a crash
  abbrev Passes : World → World → Type 0
  Passes w v = (v.writing ≡ w.writing) × (length w.handed ≤ length v.handed)

  passes : (w : World) (e : Event) → ((v : World) → v ≡ happens p plan w e → Passes w v) → Passes w (after_event p plan w e)
  passes w e does = cond_both (allows p plan w e) (happens p plan w e) w (Passes w) (λ _. does (happens p plan w e) refl) (λ _. (refl, omega arith))

  module _ (policy : OpView → ℕ) where
    at_rest : (r : Rehearsal) (v : World) → IsResting r → Passes r.world v → IsResting (record { world = v; heard = r.heard })
    at_rest r v rest does = record { idle = does.0 ∙ rest.idle; heard = omega (arith, rest.heard, does.1) }

    acted-rests : (r : Rehearsal) (a : Act) → IsResting r → can_happen p r a ≡ true → is_single a ≡ true → IsResting (acted p plan policy r a)
    acted-rests r act.Round rest can single =
        subst (λ w. IsResting (record { world = w; heard = length r.world.handed }))
        (sym (written p plan r.world rest.idle (round_batch p plan policy r) (batch_may_be_written p plan policy r.world r.heard can rest.idle)))
        (record { idle = refl; heard = omega arith })
    acted-rests r (act.Send n) rest can single = at_rest r _ rest (passes r.world (event.Send n) (λ v is. (ap (λ (w : World). w.writing) is, omega (arith, ap (λ (w : World). length w.handed) is))))
    acted-rests r (act.Deliver n) rest can single = at_rest r _ rest (passes r.world (event.Deliver n) (λ v is. (ap (λ (w : World). w.writing) is, omega (arith, ap (λ (w : World). length w.handed) is))))
    acted-rests r (act.Hand n) rest can single = at_rest r _ rest (passes r.world (event.Hand n) (λ v is. (ap (λ (w : World). w.writing) is, omega (arith, ap (λ (w : World). length w.handed) is, length-append r.world.handed (get_or r.world.given n no_answer ∷ [])))))
    acted-rests r act.All rest can single = absurd (let no : false ≡ true = single in cc)
    acted-rests r act.CrashLost rest can single =
        subst (λ w. IsResting (record { world = w; heard = 0 }))
        (sym (stopped p plan r.world rest.idle (round_batch p plan policy r) 0 can (omega arith) (batch_may_be_written p plan policy r.world r.heard can rest.idle)))
        (record { idle = refl; heard = omega arith })
    acted-rests r act.CrashKept rest can single =
        subst (λ w. IsResting (record { world = w; heard = 0 }))
        (sym (stopped p plan r.world rest.idle (round_batch p plan policy r) (length (round_batch p plan policy r)) can (omega arith) (batch_may_be_written p plan policy r.world r.heard can rest.idle)))
        (record { idle = refl; heard = omega arith })
    acted-rests r act.Stop rest can single =
        subst (λ w. IsResting (record { world = w; heard = 0 })) (sym (stopped p plan r.world rest.idle [] 0 can (omega arith) (λ some. absurd (omega (arith, some))))) (record { idle = refl; heard = omega arith })
    acted-rests r act.Start rest can single = at_rest r _ rest (passes r.world event.Restart (λ v is. (ap (λ (w : World). w.writing) is, omega (arith, ap (λ (w : World). length w.handed) is))))

    act-rests : (r : Rehearsal) (a : Act) → IsResting r → is_single a ≡ true → IsResting (after_act p plan policy r a)
    act-rests r a rest single = cond_both (can_happen p r a) (acted p plan policy r a) r IsResting (λ can. acted-rests r a rest can single) (λ _. rest)

    one-rests : (t : Trial) (chosen : Option Act) → IfSome chosen (λ a. is_single a ≡ true) → IsResting t.rehearsal → IsResting (with_act p plan policy t chosen).rehearsal
    one-rests t None single rest = rest
    one-rests t (Some a) single rest = act-rests t.rehearsal a rest single

    trial-rests : (draws : Lcg) (events : ℕ) → IsResting (after_trial p plan policy draws events).rehearsal
    trial-rests draws zero = record { idle = refl; heard = omega arith }
    trial-rests draws (suc events) =
        let t = after_trial p plan policy draws events in
        one-rests t (next_act p t.rehearsal.world t.draws).chosen (next-single p t.rehearsal.world t.draws) (trial-rests draws events)

    -- ---- so the drain may begin
    start-is : (r : Rehearsal) → r.world.up ≡ false → after_act p plan policy r act.Start ≡ record { world = record r.world { up = true }; heard = r.heard }
    start-is r down = let starts : not r.world.up ≡ true = ap not down in rw starts refl

    raised-ready : is_valid_plan p plan ≡ true → (draws : Lcg) (events : ℕ) → events + all_operations p plan ≤ MOST_SENT → IsReady p plan (raised p plan policy (after_trial p plan policy draws events).rehearsal)
    raised-ready valid draws events fits =
        let t = after_trial p plan policy draws events in
        let r = t.rehearsal in
        let kept : IsKept p plan r.world = subst (IsKept p plan) (sym (ap (λ (s : Rehearsal). s.world) (is_script p plan policy draws events) ∙ acts-scheduled p plan policy (first_rehearsal p plan) t.acts)) (every_new_world_is_kept p plan (schedule_of p plan policy (first_rehearsal p plan) t.acts) valid) in
        let rest = trial-rests draws events in
        let few = trial-few p plan policy draws events in
        let room : length r.world.sent + unsettled p plan r.world.durable ≤ MOST_SENT = omega (arith, few.sent, fits, unsettled-few p plan r.world.durable) in
        cond_both r.world.up r (after_act p plan policy r act.Start) (IsReady p plan)
        (λ up. record { kept = kept; up = up; resting = rest; room = room })
        (λ down. subst (IsReady p plan) (sym (start-is r down)) (record { kept = kept-Restart p plan r.world kept; up = refl; resting = record { idle = rest.idle; heard = rest.heard }; room = room }))

    pub trial-ends : IsNetwork p → is_valid_plan p plan ≡ true → HoldsNothing policy → (draws : Lcg) (events : ℕ) → events + all_operations p plan ≤ MOST_SENT → is_finished p plan (end_of_trial p plan policy draws events) ≡ true
    trial-ends net valid free draws events fits =
        let r = raised p plan policy (after_trial p plan policy draws events).rehearsal in
        drain-ends p plan policy net valid free (all_operations p plan) r (raised-ready valid draws events fits) (unsettled-few p plan r.world.durable)
