-- From what the switches hold in a world that is kept, a rollout may begin again: the same migration from there, or a later
-- one.
use Rattle.std.proofs.Common.{◌≡◌, ℕ, ◌<◌, true, List, slice_index, sym, ap, ◌∙◌, subst, ⊎_elim, inl, inr, arith}
use Rattle.std.proofs.lemmas.List.{get_or-map, ext_get_or}
use Rattle.rollout_rules.specs.Wan.{Problem, Plan}
use Rattle.rollout_rules.specs.Network.{IsNetwork}
use Rattle.rollout_rules.specs.Items.{item_count, item_at}
use Rattle.rollout_rules.specs.Operations.{content_after}
use Rattle.rollout_rules.specs.Legal.{is_sound}
use Rattle.rollout_rules.specs.Agent.{first_pair, Holding, nothing_held}
use Rattle.rollout_rules.specs.World.{World, pair_at, first_world, are_first_pairs, held_of, now, after_events}
use Rattle.rollout_rules.specs.declared.held.Held.{Held}
use Rattle.rollout_rules.specs.declared.event.Event.{Event}
use Rattle.rollout_rules.proofs.Rows.{list_below-length, list_below-at}
use Rattle.rollout_laws.specs.Kept.{IsKept}
use Rattle.rollout_laws.specs.SafeWorlds.{applied, pairs_held}
use Rattle.rollout_laws.proofs.Within.{held-sound}
use Rattle.rollout_laws.proofs.Pairs.{number-same}
use Rattle.rollout_laws.proofs.Keeping.{first_pairs-from, held-first_pair, held-start}
use Rattle.rollout_laws.proofs.Worlds.{every_world_is_kept}
use Rattle.rollout_laws.proofs.Durable.{goes_on_from}

module _ (p : Problem) (plan : Plan) where
  module _ (w : World) (kept : IsKept p plan w) where
    pub applied_is_sound : IsNetwork p → is_sound p plan (applied p w) ≡ true
    applied_is_sound net = held-sound p plan w.durable (now w) net kept.legal (record { settled = λ n lt. (kept.held n lt).low; begun = λ n lt. (kept.held n lt).high })

    -- the pairs held, by item
    nth_pair : (n : ℕ) → n < item_count p → pair_at (pairs_held w) n ≡ (held_of w n).held
    nth_pair n lt = get_or-map (λ v. v.held) w.held n nothing_held first_pair (subst (λ k. n < k) (sym kept.items) lt)

    nth_applied : (n : ℕ) → n < item_count p → slice_index (applied p w) n ≡ now w n
    nth_applied n lt = list_below-at (item_count p) (now w) n 0 lt

    pub may_go_on : are_first_pairs p (applied p w) w.migration (pairs_held w) ≡ true
    may_go_on =
        first_pairs-from p (applied p w) w.migration (pairs_held w)
        (λ n lt. ⊎_elim
        (λ same. let number = sym (number-same w.migration (slice_index w.durable.start n) (held_of w n).held same) ∙ sym (nth_applied n lt) in
        inl (nth_pair n lt ∙ (λ k. record { migration = same k; number = number k })))
        (λ first. inr (subst (λ held. held.migration < w.migration) (sym (nth_pair n lt)) first.earlier))
        (kept.held n lt).pair)

    pub later_may_begin : (start : List ℕ) (migration : ℕ) → w.migration < migration → are_first_pairs p start migration (pairs_held w) ≡ true
    later_may_begin start migration later =
        first_pairs-from p start migration (pairs_held w)
        (λ n lt. inr (subst (λ held. held.migration < migration) (sym (nth_pair n lt))
        (⊎_elim (λ same. omega (arith, same, later)) (λ first. let earlier = first.earlier in omega (arith, earlier, later)) (kept.held n lt).pair)))

    pub goes_on_as_held : (first_world p plan (applied p w) w.migration (pairs_held w)).held ≡ w.held
    goes_on_as_held =
        ext_get_or nothing_held again w.held (list_below-length (item_count p) _ ∙ sym kept.items)
        (λ n few. same n (subst (λ k. n < k) (list_below-length (item_count p) _) few))
      where
        again : List Holding
        again = (first_world p plan (applied p w) w.migration (pairs_held w)).held

        same : (n : ℕ) → n < item_count p → held_of (first_world p plan (applied p w) w.migration (pairs_held w)) n ≡ held_of w n
        same n lt =
            let pair = held-first_pair p plan (applied p w) w.migration (pairs_held w) n lt ∙ nth_pair n lt in
            let content = held-start p plan (applied p w) w.migration (pairs_held w) may_go_on n lt ∙ ap (content_after p plan (item_at p n)) (nth_applied n lt) ∙ sym (kept.held n lt).content in
            λ k. record { held = pair k; content = content k }

  -- so it is with every world that a schedule leads to
  module _ (start : List ℕ) (migration : ℕ) (first : List Held) (es : List Event) (sound : is_sound p plan start ≡ true) (firsts : are_first_pairs p start migration first ≡ true) where
    abbrev reached : World
    reached = after_events p plan (first_world p plan start migration first) es

    reached_is_kept : IsKept p plan reached
    reached_is_kept = every_world_is_kept p plan start migration first es sound firsts

    same_migration : reached.migration ≡ migration
    same_migration = (goes_on_from p plan (first_world p plan start migration first) es).migration

    pub every_applied_is_sound : IsNetwork p → is_sound p plan (applied p reached) ≡ true
    every_applied_is_sound = applied_is_sound reached reached_is_kept

    pub every_may_go_on : are_first_pairs p (applied p reached) migration (pairs_held reached) ≡ true
    every_may_go_on = subst (λ m. are_first_pairs p (applied p reached) m (pairs_held reached) ≡ true) same_migration (may_go_on reached reached_is_kept)

    pub every_later_may_begin : (start' : List ℕ) (later : ℕ) → migration < later → are_first_pairs p start' later (pairs_held reached) ≡ true
    every_later_may_begin start' later past = later_may_begin reached reached_is_kept start' later (subst (λ m. m < later) (sym same_migration) past)

    pub every_goes_on_as_held : (first_world p plan (applied p reached) migration (pairs_held reached)).held ≡ reached.held
    every_goes_on_as_held = subst (λ m. (first_world p plan (applied p reached) m (pairs_held reached)).held ≡ reached.held) same_migration (goes_on_as_held reached reached_is_kept)
