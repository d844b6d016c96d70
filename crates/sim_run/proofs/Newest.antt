-- How many commands and answers there are after so many events of a trial: an event adds at most one of each.
use Rattle.std.proofs.Common.{◌≡◌, ℕ, zero, suc, ◌+◌, ◌≤◌, Bool, true, false, cond, List, [], ◌∷◌, ◌++◌, length, get_or, Option, Some, None, IfSome, option_map, nat_lt, refl, arith, length-append}
use Rattle.std.proofs.lemmas.Bool.{cond_both}
use Rattle.sim_run.specs.Drafts.{Draft, joined, joins, sketched, with_chosen}
use Rattle.rand_pcg.specs.Lcg.{Lcg}
use Rattle.rollout_rules.specs.Wan.{Plan, Problem}
use Rattle.rollout_rules.specs.Items.{item_at}
use Rattle.rollout_rules.specs.Operations.{content_after}
use Rattle.rollout_rules.specs.Agent.{held_after, pair_of}
use Rattle.rollout_rules.specs.World.{World, allows, happens, after_event, after_events, held_of, holding_of, in_flight, no_op}
use Rattle.rollout_rules.specs.declared.held.Given.{Given}
use Rattle.rollout_rules.specs.declared.held.Held.{Held}
use Rattle.rollout_rules.specs.declared.op.OpView.{OpView}
use Rattle.rollout_rules.specs.declared.op.Entry.{Entry}
use Rattle.rollout_rules.specs.declared.event.Event.{Event}
use Rattle.rollout_rules.specs.declared.event.Event.TheVariants as event
use Rattle.rollout_rules.specs.declared.event.Act.{Act}
use Rattle.rollout_rules.specs.declared.event.Act.TheVariants as act
use Rattle.case_gen.specs.Draws.{after_draws, drawn}
use Rattle.sim_run.specs.Acts.{Rehearsal, round_batch, write_whole, stop_writing, events_of, can_happen, acted, after_act}
use Rattle.sim_run.specs.Trials.{Drawn, Trial, act_for, after_trial, any_of, new_one_of, next_act, with_act}

-- at most so many more of each
record AddsAtMost (w v : World) (n : ℕ) : Type 0 where
  pub sent : length v.sent ≤ length w.sent + n
  pub given : length v.given ≤ length w.given + n

-- what an event may add
abbrev cost : Event → ℕ
cost (event.Write b) = 0
cost event.EndWrite = 0
cost (event.Send n) = 1
cost (event.Deliver n) = 1
cost (event.Hand n) = 0
cost (event.Old n m j) = 1
cost (event.Crash n) = 0
cost event.Restart = 0

abbrev cost_of : List Event → ℕ
cost_of [] = 0
cost_of (e ∷ es) = cost e + cost_of es

none-added : (w : World) (n : ℕ) → AddsAtMost w w n
none-added w n = record { sent = omega arith; given = omega arith }

-- what a switch answers
abbrev answer : World → ℕ → Held → List ℕ → Given
answer w n asked content = record { item = n; held = (held_after (held_of w n) asked content).held }

module _ (p : Problem) (plan : Plan) where
  longer : (xs : List Given) (x : Given) → length (xs ++ x ∷ []) ≤ length xs + 1
  longer xs x = omega (arith, length-append xs (x ∷ []))

  happens-adds : (w : World) (e : Event) → AddsAtMost w (happens p plan w e) (cost e)
  happens-adds w (event.Write b) = record { sent = omega arith; given = omega arith }
  happens-adds w event.EndWrite = record { sent = omega arith; given = omega arith }
  happens-adds w (event.Send n) = record { sent = omega (arith, length-append w.sent (get_or (in_flight p w.durable) n no_op ∷ [])); given = omega arith }
  happens-adds w (event.Deliver n) = record { sent = omega arith; given = longer w.given (answer w (get_or w.sent n no_op).item (pair_of w.migration (get_or w.sent n no_op).number) (content_after p plan (item_at p (get_or w.sent n no_op).item) (get_or w.sent n no_op).number)) }
  happens-adds w (event.Hand n) = record { sent = omega arith; given = omega arith }
  happens-adds w (event.Old n m j) = record { sent = omega arith; given = longer w.given (answer w n (pair_of m j) (holding_of p plan w.durable.start w.migration n (pair_of m j)).content) }
  happens-adds w (event.Crash n) = record { sent = omega arith; given = omega arith }
  happens-adds w event.Restart = record { sent = omega arith; given = omega arith }

  event-adds : (w : World) (e : Event) → AddsAtMost w (after_event p plan w e) (cost e)
  event-adds w e = cond_both (allows p plan w e) (happens p plan w e) w (λ v. AddsAtMost w v (cost e)) (λ _. happens-adds w e) (λ _. none-added w (cost e))

  events-add : (w : World) (es : List Event) → AddsAtMost w (after_events p plan w es) (cost_of es)
  events-add w [] = none-added w 0
  events-add w (e ∷ es) =
      let one = event-adds w e in
      let rest = events-add (after_event p plan w e) es in
      record { sent = omega (arith, one.sent, rest.sent); given = omega (arith, one.given, rest.given) }

-- ---- acts on at most one operation
abbrev pub is_single : Act → Bool
is_single act.Round = true
is_single (act.Send n) = true
is_single (act.Deliver n) = true
is_single (act.Hand n) = true
is_single act.All = false
is_single act.CrashLost = true
is_single act.CrashKept = true
is_single act.Stop = true
is_single act.Start = true

whole-costs : (b : List Entry) → cost_of (write_whole b) ≤ 1
whole-costs [] = omega arith
whole-costs (e ∷ es) = omega arith

stop-costs : (b : List Entry) (n : ℕ) → cost_of (stop_writing b n) ≤ 1
stop-costs [] n = omega arith
stop-costs (e ∷ es) n = omega arith

module _ (p : Problem) (plan : Plan) (policy : OpView → ℕ) where
  act-costs : (r : Rehearsal) (a : Act) → is_single a ≡ true → cost_of (events_of p plan policy r a) ≤ 1
  act-costs r act.Round single = whole-costs (round_batch p plan policy r)
  act-costs r (act.Send n) single = omega arith
  act-costs r (act.Deliver n) single = omega arith
  act-costs r (act.Hand n) single = omega arith
  act-costs r act.All single = absurd (let no : false ≡ true = single in cc)
  act-costs r act.CrashLost single = stop-costs (round_batch p plan policy r) 0
  act-costs r act.CrashKept single = stop-costs (round_batch p plan policy r) (length (round_batch p plan policy r))
  act-costs r act.Stop single = omega arith
  act-costs r act.Start single = omega arith

  act-adds : (r : Rehearsal) (a : Act) → is_single a ≡ true → AddsAtMost r.world (after_act p plan policy r a).world 1
  act-adds r a single =
      let done = events-add p plan r.world (events_of p plan policy r a) in
      let costs = act-costs r a single in
      cond_both (can_happen p r a) (acted p plan policy r a) r (λ (s : Rehearsal). AddsAtMost r.world s.world 1)
      (λ _. record { sent = omega (arith, done.sent, costs); given = omega (arith, done.given, costs) }) (λ _. none-added r.world 1)

-- ---- what is drawn is such an act
abbrev IsSingle : Drawn → Type 0
IsSingle d = IfSome d.chosen (λ a. is_single a ≡ true)

single-picked : (of : ℕ → Act) (place : Option ℕ) → ((n : ℕ) → is_single (of n) ≡ true) → IfSome (option_map of place) (λ a. is_single a ≡ true)
single-picked of None all = tt
single-picked of (Some n) all = all n

either : (b : Bool) (d e : Drawn) → IsSingle d → IsSingle e → IsSingle (cond b d e)
either true d e one other = one
either false d e one other = other

act_for-single : (p : Problem) (w : World) (draws : Lcg) (d : ℕ) → IsSingle (act_for p w draws d)
act_for-single p w draws d =
    either (nat_lt d 25) _ _ refl
    (either (nat_lt d 50) _ _ (single-picked act.Send (any_of draws (length (in_flight p w.durable))).place (λ n. refl))
    (either (nat_lt d 72) _ _ (single-picked act.Deliver (new_one_of draws (length w.sent)).place (λ n. refl))
    (either (nat_lt d 94) _ _ (single-picked act.Hand (new_one_of draws (length w.given)).place (λ n. refl))
    (either (nat_lt d 96) _ _ refl (either (nat_lt d 98) _ _ refl refl)))))

pub next-single : (p : Problem) (w : World) (draws : Lcg) → IsSingle (next_act p w draws)
next-single p w draws = either w.up _ _ (act_for-single p w (after_draws draws 1) (drawn draws 0 100)) refl

-- ---- so after some events there are at most as many
pub record IsFew (w : World) (n : ℕ) : Type 0 where
  pub sent : length w.sent ≤ n
  pub given : length w.given ≤ n

module _ (p : Problem) (plan : Plan) (policy : OpView → ℕ) where
  one-more : (t : Trial) (chosen : Option Act) (n : ℕ) → IfSome chosen (λ a. is_single a ≡ true) → IsFew t.rehearsal.world n → IsFew (with_act p plan policy t chosen).rehearsal.world (suc n)
  one-more t None n single few = record { sent = omega (arith, few.sent); given = omega (arith, few.given) }
  one-more t (Some a) n single few =
      let more = act-adds p plan policy t.rehearsal a single in
      record { sent = omega (arith, few.sent, more.sent); given = omega (arith, few.given, more.given) }

  pub trial-few : (draws : Lcg) (n : ℕ) → IsFew (after_trial p plan policy draws n).rehearsal.world n
  trial-few draws zero = record { sent = omega arith; given = omega arith }
  trial-few draws (suc n) =
      let t = after_trial p plan policy draws n in
      one-more t (next_act p t.rehearsal.world t.draws).chosen n (next-single p t.rehearsal.world t.draws) (trial-few draws n)

-- ---- and so of a script that is drawn

module _ (p : Problem) (plan : Plan) (policy : OpView → ℕ) where
  abbrev longer_draft : Draft → Act → Draft
  longer_draft d a = record { acts = d.acts ++ a ∷ []; rehearsal = acted p plan policy d.rehearsal a }

  joined-few : (d : Draft) (a : Act) (n : ℕ) → is_single a ≡ true → IsFew d.rehearsal.world n → IsFew (joined p plan policy d a).rehearsal.world (suc n)
  joined-few d a n single few =
      let done = events-add p plan d.rehearsal.world (events_of p plan policy d.rehearsal a) in
      let costs = act-costs p plan policy d.rehearsal a single in
      cond_both (joins p d a) (longer_draft d a) d (λ (e : Draft). IsFew e.rehearsal.world (suc n))
      (λ _. record { sent = omega (arith, done.sent, costs, few.sent); given = omega (arith, done.given, costs, few.given) })
      (λ _. record { sent = omega (arith, few.sent); given = omega (arith, few.given) })

  chosen-few : (d : Draft) (chosen : Option Act) (n : ℕ) → IfSome chosen (λ a. is_single a ≡ true) → IsFew d.rehearsal.world n → IsFew (with_chosen p plan policy d chosen).rehearsal.world (suc n)
  chosen-few d None n single few = record { sent = omega (arith, few.sent); given = omega (arith, few.given) }
  chosen-few d (Some a) n single few = joined-few d a n single few

  pub sketch-few : (draws : Lcg) (n : ℕ) → IsFew (sketched p plan policy draws n).draft.rehearsal.world n
  sketch-few draws zero = record { sent = omega arith; given = omega arith }
  sketch-few draws (suc n) =
      let s = sketched p plan policy draws n in
      chosen-few s.draft (next_act p s.draft.rehearsal.world s.draws).chosen n (next-single p s.draft.rehearsal.world s.draws) (sketch-few draws n)
