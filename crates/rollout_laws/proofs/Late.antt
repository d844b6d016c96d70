-- Late commands of earlier migrations change nothing, over every schedule.
use Rattle.std.proofs.Common.{◌≡◌, ℕ, ◌<◌, true, false, ◌&&◌, nat_lt, List, sym, ◌∙◌, subst}
use Rattle.std.proofs.lemmas.Bool.{and_parts, and_from, both_ways, cond-true, cond-false, ltb-true, lt-ltb, false_from_ne_true}
use Rattle.rollout_rules.specs.Wan.{Problem, Plan}
use Rattle.rollout_rules.specs.Items.{item_count}
use Rattle.rollout_rules.specs.Legal.{is_sound}
use Rattle.rollout_rules.specs.Agent.{pair_of, is_at_most}
use Rattle.rollout_rules.specs.World.{World, first_world, are_first_pairs, holding_of, pair_at, may_come_late, allows, received, happens, after_event, after_events}
use Rattle.rollout_rules.specs.declared.held.Held.{Held}
use Rattle.rollout_rules.specs.declared.event.Event.{Event}
use Rattle.rollout_rules.specs.declared.event.Event.TheVariants as event
use Rattle.rollout_laws.specs.SafeWorlds.{with_answer}
use Rattle.rollout_laws.proofs.Delivery.{late-received}
use Rattle.rollout_laws.proofs.Worlds.{every_world_is_kept}
use Rattle.rollout_laws.proofs.Durable.{goes_on_from}

module _ (p : Problem) (plan : Plan) where
  module _ (start : List ℕ) (migration : ℕ) (first : List Held) (es : List Event) (sound : is_sound p plan start ≡ true) (firsts : are_first_pairs p start migration first ≡ true) where
    abbrev reached : World
    reached = after_events p plan (first_world p plan start migration first) es

    pub every_late_received : (n : ℕ) (late : Held) (content : List ℕ) → may_come_late p reached n late ≡ true → received reached n late content ≡ with_answer reached n
    every_late_received = late-received p plan reached (every_world_is_kept p plan start migration first es sound firsts)

    may_come : (n m j : ℕ) → n < item_count p → m < migration → is_at_most (pair_of m j) (pair_at first n) ≡ true → may_come_late p reached n (pair_of m j) ≡ true
    may_come n m j lt earlier late =
        let from = goes_on_from p plan (first_world p plan start migration first) es in
        and_from _ _
        (and_from _ _ (lt-ltb n (item_count p) lt) (lt-ltb m reached.migration (subst (λ k. m < k) (sym from.migration) earlier)))
        (subst (λ pairs. is_at_most (pair_of m j) (pair_at pairs n) ≡ true) (sym from.first) late)

    pub late_comes : (n m j : ℕ) → n < item_count p → m < migration → is_at_most (pair_of m j) (pair_at first n) ≡ true → after_event p plan reached (event.Old n m j) ≡ with_answer reached n
    late_comes n m j lt earlier late =
        let may = may_come n m j lt earlier late in
        cond-true (allows p plan reached (event.Old n m j)) (happens p plan reached (event.Old n m j)) reached may
        ∙ every_late_received n (pair_of m j) (holding_of p plan reached.durable.start reached.migration n (pair_of m j)).content may

  -- any other is passed over
  pub others_never_come : (w : World) (n m j : ℕ) → (n < item_count p → m < w.migration → is_at_most (pair_of m j) (pair_at w.first n) ≡ false) → after_event p plan w (event.Old n m j) ≡ w
  others_never_come w n m j above =
      cond-false (allows p plan w (event.Old n m j)) (happens p plan w (event.Old n m j)) w (false_from_ne_true (may_come_late p w n (pair_of m j)) none)
    where
      none : may_come_late p w n (pair_of m j) ≡ true → ⊥
      none may =
          let parts = and_parts (nat_lt n (item_count p) && nat_lt m w.migration) (is_at_most (pair_of m j) (pair_at w.first n)) may in
          let within = and_parts (nat_lt n (item_count p)) (nat_lt m w.migration) parts.0 in
          both_ways (is_at_most (pair_of m j) (pair_at w.first n)) (above (ltb-true n (item_count p) within.0) (ltb-true m w.migration within.1)) parts.1
