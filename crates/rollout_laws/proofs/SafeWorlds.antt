-- A world that is kept is safe.
use Rattle.std.proofs.Common.{◌≡◌, ℕ, ◌+◌, ◌<◌, ◌≤◌, Bool, true, cond, ◌==◌, ◌⊎◌, List, [], ◌∷◌, ◌++◌, length, slice_index, refl, sym, ap, ◌∙◌, subst, ⊎_elim, inl, inr, arith, eq-eqb, append_assoc, append-nil}
use Rattle.std.proofs.lemmas.Bool.{and_parts, cases_eq, cond-true}
use Rattle.std.proofs.lemmas.List.{same_from_push}
use Rattle.std.proofs.lemmas.List.Elements.{All-nil, All-cons, All-weaker, All-contains}
use Rattle.std.specs.List.{All, Contains}
use Rattle.rollout_rules.specs.Wan.{Problem, Plan, tunnel_at, hops, rate_at, mark_at}
use Rattle.rollout_rules.specs.Network.{IsNetwork}
use Rattle.rollout_rules.specs.Valid.{is_valid_plan}
use Rattle.rollout_rules.specs.Items.{item_count, number_of}
use Rattle.rollout_rules.specs.Operations.{stand_after}
use Rattle.rollout_rules.specs.History.{History, with_entries, no_start, begun, settled, flies, places_of}
use Rattle.rollout_rules.specs.Legal.{is_sound, may_add, may_follow, is_legal}
use Rattle.rollout_rules.specs.Safe.{settled_rate, next_rate, IsRateChoice, IsMarkChoice, IsSafe}
use Rattle.rollout_rules.specs.World.{World, first_world, are_first_pairs, no_pairs, new_world, held_of, now, after_events}
use Rattle.rollout_rules.specs.Agent.{pair_of}
use Rattle.rollout_rules.specs.declared.held.Held.{Held}
use Rattle.rollout_rules.specs.declared.item.Item.{Item}
use Rattle.rollout_rules.specs.declared.item.Item.TheVariants as item
use Rattle.rollout_rules.specs.declared.op.Op.{Op}
use Rattle.rollout_rules.specs.declared.op.Entry.{Entry}
use Rattle.rollout_rules.specs.declared.op.Entry.TheVariants.{Begin, Done}
use Rattle.rollout_rules.specs.declared.event.Event.{Event}
use Rattle.rollout_rules.proofs.Numbers.{number_of-below}
use Rattle.rollout_rules.proofs.OverItems.{is_item-flow, is_item-entry}
use Rattle.rollout_laws.specs.Kept.{IsBegun, HasAnswer, IsKept}
use Rattle.rollout_laws.specs.SafeWorlds.{held_rate, held_mark, IsHeldAsAtFirst, IsHeldBetween, NetworkHolds, IsSafeWorld, EveryWorldIsSafe}
use Rattle.rollout_laws.proofs.Histories.{ends, is_legal-append, is_counted, begun_is_there}
use Rattle.rollout_laws.proofs.Pairs.{number-same, number-other}
use Rattle.rollout_laws.proofs.Answers.{answered_has_answer}
use Rattle.rollout_laws.proofs.Keeping.{answer_is_of_an_item, answer_was_applied, new_pairs_are_first}
use Rattle.rollout_laws.proofs.SoundStarts.{no_start-sound}
use Rattle.rollout_laws.proofs.Safety.{legal-safe}
use Rattle.rollout_laws.proofs.Worlds.{every_world_is_kept}

-- a number between what is settled and what is begun is one of two
one_of_two : (s b k : ℕ) → s ≤ k → k ≤ b → b ≤ s + 1 → (k ≡ s) ⊎ (k ≡ cond (b == s + 1) (s + 1) s)
one_of_two s b k low high one =
    ⊎_elim (λ (e : k ≡ s). inl e) (λ (o : k ≡ s → ⊥). inr (sym (cond-true (b == s + 1) (s + 1) s (eq-eqb b (s + 1) (omega arith)) ∙ omega arith))) (cases_eq k s)

-- each Done that follows is of an operation past the start
abbrev IsPast : List ℕ → Entry → Type 0
IsPast start (Begin op) = Unit {0}
IsPast start (Done op) = slice_index start op.item < op.number

-- a schedule is empty, or has a last event
by_its_end : (es : List Event) → (es ≡ []) ⊎ ((r : List Event) × (x : Event) × (es ≡ r ++ x ∷ []))
by_its_end [] = inl refl
by_its_end (e ∷ es) =
    ⊎_elim
    (λ (none : es ≡ []). inr ([], e, ap (λ r. e ∷ r) none))
    (λ (some : (r : List Event) × (x : Event) × (es ≡ r ++ x ∷ [])). inr (e ∷ some.0, some.1, ap (λ r. e ∷ r) some.2))
    (by_its_end es)

module _ (p : Problem) (plan : Plan) where
  is_past : (h : History) (e : Entry) → may_add p plan h e ≡ true → IsPast h.start e
  is_past h (Begin op) may = tt
  is_past h (Done op) may = let number = (ends h op may).number in omega (arith, number)

  are_past : (h : History) (es : List Entry) → may_follow p plan h es ≡ true → All (IsPast h.start) es
  are_past h [] follows = All-nil (IsPast h.start)
  are_past h (e ∷ es) follows =
      let parts = and_parts (may_add p plan h e) (may_follow p plan (with_entries h (e ∷ [])) es) follows in
      All-cons (IsPast h.start) e es (is_past h e parts.0) (are_past (with_entries h (e ∷ [])) es parts.1)

  op_is_there : (h : History) → is_legal p plan h ≡ true → (op : Op) → IsBegun h op → Contains h.entries (Begin op)
  op_is_there h legal op begun = begun_is_there p plan h legal op.item op.number begun.low begun.high

  module _ (w : World) (kept : IsKept p plan w) where
    -- the number applied is settled, or that of the operation in flight
    applied_choice : (n : ℕ) → n < item_count p → (now w n ≡ settled w.durable n) ⊎ (now w n ≡ cond (flies w.durable n) (settled w.durable n + 1) (settled w.durable n))
    applied_choice n lt = one_of_two (settled w.durable n) (begun w.durable n) (now w n) (kept.held n lt).low (kept.held n lt).high (is_counted p plan w.durable kept.legal n).one_flies

    rates_held : IsNetwork p → IsRateChoice p plan (places_of p w.durable) (held_rate p plan w)
    rates_held net t lt =
        ⊎_elim (λ e. inl (ap there e)) (λ e. inr (ap there e)) (applied_choice (number_of p i) (number_of-below p i (is_item-flow p (tunnel_at p t).flow (net.tunnels t lt).flow)))
      where
        i : Item
        i = item.Flow (tunnel_at p t).flow

        there : ℕ → ℕ
        there k = rate_at plan (stand_after p plan i k) t

    marks_held : IsMarkChoice p plan (places_of p w.durable) (held_mark p plan w)
    marks_held t h lt lh =
        ⊎_elim (λ e. inl (ap there e)) (λ e. inr (ap there e)) (applied_choice (number_of p (item.Entry t h)) (number_of-below p (item.Entry t h) (is_item-entry p t h lt lh)))
      where
        there : ℕ → Bool
        there k = mark_at plan (stand_after p plan (item.Entry t h) k) t

    network_holds : IsNetwork p → IsSafe p plan (places_of p w.durable) → NetworkHolds p plan w
    network_holds net safe =
        record {
          rates = rates_held net;
          marks = marks_held;
          links = safe.links (held_rate p plan w) (rates_held net);
          tables = safe.tables (held_mark p plan w) marks_held;
          entries = entries;
        }
      where
        entries : (t h : ℕ) → t < length p.tunnels → h < hops p t → 0 < held_rate p plan w t → held_mark p plan w t h ≡ true
        entries t h lt lh some =
            let carried : (0 < settled_rate p plan (places_of p w.durable) t) ⊎ (0 < next_rate p plan (places_of p w.durable) t) =
            ⊎_elim (λ e. inl (subst (λ r. 0 < r) e some)) (λ e. inr (subst (λ r. 0 < r) e some)) (rates_held net t lt) in
            let stand = safe.entries t h lt lh carried in
            ⊎_elim (λ e. e ∙ stand.0) (λ e. e ∙ stand.1) (marks_held t h lt lh)

    -- the pair held is that of the number applied, or still the first one
    pair_held : (n : ℕ) → n < item_count p → ((held_of w n).held ≡ pair_of w.migration (now w n)) ⊎ IsHeldAsAtFirst w n
    pair_held n lt =
        ⊎_elim
        (λ same. let number = number-same w.migration (slice_index w.durable.start n) (held_of w n).held same in
        inl (λ k. record { migration = same k; number = sym number k }))
        (λ first. let number = number-other w.migration (slice_index w.durable.start n) (held_of w n).held (λ e. let earlier = first.earlier in omega (arith, e, earlier)) in
        let low = (kept.held n lt).low in
        inr (record { pair = first.same; earlier = first.earlier; applied = number; settled = omega (arith, number, low) }))
        (kept.held n lt).pair

    is_held_between : (n : ℕ) → n < item_count p → IsHeldBetween p plan w n
    is_held_between n lt =
        let held = kept.held n lt in
        record { settled = held.low; begun = held.high; content = held.content; pair = pair_held n lt; least = held.least }

    answered : (op : Op) → Contains w.writing (Done op) → HasAnswer w.migration w.handed op
    answered = answered_has_answer w.migration w.handed w.writing kept.answered

    applied : (op : Op) → Contains w.writing (Done op) → op.number ≤ now w op.item
    applied op has = answer_was_applied p plan w kept op (answered op has)

    done_is_begun : (op : Op) → Contains w.writing (Done op) → Contains w.durable.entries (Begin op)
    done_is_begun op has =
        let past = All-contains (IsPast w.durable.start) w.writing (Done op) (are_past w.durable w.writing kept.follows) has in
        let most = applied op has in
        let high = (kept.held op.item (answer_is_of_an_item p plan w kept op (answered op has))).high in
        op_is_there w.durable kept.legal op (record { low = past; high = omega (arith, most, high) })

    pub kept_is_safe : IsNetwork p → IsSafe p plan (places_of p w.durable) → IsSafeWorld p plan w
    kept_is_safe net safe =
        record {
          durable = kept.legal;
          writing = is_legal-append p plan w.durable w.writing kept.legal kept.follows;
          safe = safe;
          sent = All-weaker (IsBegun w.durable) (λ op. Contains w.durable.entries (Begin op)) (op_is_there w.durable kept.legal) w.sent kept.sent;
          items = kept.items;
          held = is_held_between;
          network = network_holds net safe;
          given = kept.given;
          answering = kept.answering;
          handed = kept.handed;
          answered = answered;
          applied = applied;
          begun = done_is_begun;
        }

  -- the same from a network and a valid plan
  pub kept_is_safe_world : IsNetwork p → is_valid_plan p plan ≡ true → (w : World) → IsKept p plan w → IsSafeWorld p plan w
  kept_is_safe_world net valid w kept = kept_is_safe w kept net (legal-safe p plan w.durable net valid kept.legal)

  -- every world on the way through a schedule is safe
  pub every_world_is_safe : (start : List ℕ) (migration : ℕ) (first : List Held) (es : List Event) → IsNetwork p → is_valid_plan p plan ≡ true → is_sound p plan start ≡ true → are_first_pairs p start migration first ≡ true → EveryWorldIsSafe p plan (first_world p plan start migration first) es
  every_world_is_safe start migration first es net valid sound firsts front rest same =
      kept_is_safe_world net valid (after_events p plan (first_world p plan start migration first) front) (every_world_is_kept p plan start migration first front sound firsts)

  -- so it is in a network's first migration
  pub new_world_is_safe : (es : List Event) → IsNetwork p → is_valid_plan p plan ≡ true → EveryWorldIsSafe p plan (new_world p plan) es
  new_world_is_safe es net valid = every_world_is_safe (no_start p) 0 (no_pairs p) es net valid (no_start-sound p plan valid) (new_pairs_are_first p)

  -- one event more, for a loop that goes through a schedule
  pub EveryWorldIsSafe-push : (w : World) (es : List Event) (e : Event) → EveryWorldIsSafe p plan w es → IsSafeWorld p plan (after_events p plan w (es ++ e ∷ [])) → EveryWorldIsSafe p plan w (es ++ e ∷ [])
  EveryWorldIsSafe-push w es e before last front rest same =
      ⊎_elim
      (λ (none : rest ≡ []). subst (λ fs. IsSafeWorld p plan (after_events p plan w fs)) (sym (sym (append-nil front) ∙ ap (λ r. front ++ r) (sym none) ∙ same)) last)
      (λ (some : (r : List Event) × (x : Event) × (rest ≡ r ++ x ∷ [])).
      before front some.0 (same_from_push (front ++ some.0) es some.1 e (append_assoc front some.0 (some.1 ∷ []) ∙ ap (λ r. front ++ r) (sym some.2) ∙ same)).0)
      (by_its_end rest)
