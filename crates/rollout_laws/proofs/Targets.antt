-- Once every operation is settled, each item is held at its target.
use Rattle.std.proofs.Common.{◌≡◌, ℕ, ◌<◌, ◌⊎◌, true, ◌==◌, List, slice_index, sym, ap, ◌∙◌, ⊎_elim, inl, inr, arith, eqb-true, le_of_eq}
use Rattle.rollout_rules.specs.Wan.{Problem, Plan, tunnel_at, rate_at, mark_at}
use Rattle.rollout_rules.specs.Network.{IsNetwork}
use Rattle.rollout_rules.specs.Valid.{is_valid_plan}
use Rattle.rollout_rules.specs.Items.{item_count, item_at, number_of, content}
use Rattle.rollout_rules.specs.Operations.{operations, stand_after, content_after}
use Rattle.rollout_rules.specs.History.{settled}
use Rattle.rollout_rules.specs.Legal.{is_sound, is_finished}
use Rattle.rollout_rules.specs.World.{World, number_at, pair_at, first_world, are_first_pairs, new_world, held_of, now, after_events}
use Rattle.rollout_rules.specs.Agent.{pair_of}
use Rattle.rollout_rules.specs.declared.held.Held.{Held}
use Rattle.rollout_rules.specs.declared.item.Item.TheVariants as item
use Rattle.rollout_rules.specs.declared.event.Event.{Event}
use Rattle.rollout_rules.proofs.Below.{all_below-at}
use Rattle.rollout_rules.proofs.Numbers.{number_of-below}
use Rattle.rollout_rules.proofs.OverItems.{is_item-flow, is_item-entry}
use Rattle.rollout_laws.specs.Kept.{IsEarlierPair, IsKept}
use Rattle.rollout_laws.specs.SafeWorlds.{HasFrom, IsLeftAsAtFirst, IsHeldAtTarget, NetworkAtTarget}
use Rattle.rollout_laws.proofs.Histories.{is_counted}
use Rattle.rollout_laws.proofs.Standing.{stand-last}
use Rattle.rollout_laws.proofs.Ends.{finished-rate, finished-mark}
use Rattle.rollout_laws.proofs.Pairs.{number-same, number-other}
use Rattle.rollout_laws.proofs.Keeping.{first_held}
use Rattle.rollout_laws.proofs.Worlds.{every_world_is_kept, every_new_world_is_kept}
use Rattle.rollout_laws.proofs.Durable.{goes_on_from}

module _ (p : Problem) (plan : Plan) where
  module _ (w : World) (kept : IsKept p plan w) (finished : is_finished p plan w.durable ≡ true) where
    all_settled : (n : ℕ) → n < item_count p → settled w.durable n ≡ operations p plan (item_at p n)
    all_settled n lt = eqb-true _ _ (all_below-at (item_count p) (λ m. settled w.durable m == operations p plan (item_at p m)) finished n lt)

    -- nothing is in flight, so what was applied is settled
    applied_is_settled : (n : ℕ) → n < item_count p → now w n ≡ settled w.durable n
    applied_is_settled n lt =
        let done = all_settled n lt in
        let low = (kept.held n lt).low in
        let high = (kept.held n lt).high in
        let most = (is_counted p plan w.durable kept.legal n).exist lt in
        omega (arith, done, low, high, most)

    -- the pair of this migration, or the first holding
    left_by : (start : List ℕ) (migration : ℕ) (first : List Held) → HasFrom (first_world p plan start migration first) w → (n : ℕ) → n < item_count p
        → ((held_of w n).held ≡ pair_of migration (operations p plan (item_at p n))) ⊎ IsLeftAsAtFirst p plan (first_world p plan start migration first) w n
    left_by start migration first from n lt =
        ⊎_elim this earlier (kept.held n lt).pair
      where
        applied : now w n ≡ operations p plan (item_at p n)
        applied = applied_is_settled n lt ∙ all_settled n lt

        this : (held_of w n).held.migration ≡ w.migration → ((held_of w n).held ≡ pair_of migration (operations p plan (item_at p n))) ⊎ IsLeftAsAtFirst p plan (first_world p plan start migration first) w n
        this same =
            let number = sym (number-same w.migration (slice_index w.durable.start n) (held_of w n).held same) ∙ applied in
            let current = same ∙ from.migration in
            inl (λ k. record { migration = current k; number = number k })

        earlier : IsEarlierPair w.migration (pair_at w.first n) (held_of w n).held → ((held_of w n).held ≡ pair_of migration (operations p plan (item_at p n))) ⊎ IsLeftAsAtFirst p plan (first_world p plan start migration first) w n
        earlier e =
            let before = e.earlier in
            let stands = number-other w.migration (slice_index w.durable.start n) (held_of w n).held (λ q. omega (arith, q, before)) in
            let starts = ap (λ l. slice_index l n) (sym from.start) ∙ sym stands ∙ applied in
            let pair = e.same ∙ ap (λ l. pair_at l n) from.first in
            let content = (kept.held n lt).content ∙ ap (content_after p plan (item_at p n)) (alike pair) in
            inr (record { start = starts; held = (λ k. record { held = pair k; content = content k }) ∙ sym (first_held p plan start migration first n lt) })
          where
            alike : (held_of w n).held ≡ pair_at first n → now w n ≡ number_at migration (slice_index start n) (pair_at first n)
            alike pair = λ k. number_at (from.migration k) (slice_index (from.start k) n) (pair k)

    pub kept_at_target : (start : List ℕ) (migration : ℕ) (first : List Held) → HasFrom (first_world p plan start migration first) w → (n : ℕ) → n < item_count p → IsHeldAtTarget p plan (first_world p plan start migration first) w n
    kept_at_target start migration first from n lt =
        let number = applied_is_settled n lt ∙ all_settled n lt in
        record {
          number = number;
          content = (kept.held n lt).content ∙ ap (content p plan (item_at p n)) (stand-last p plan (item_at p n) (now w n) (le_of_eq (sym number)));
          pair = left_by start migration first from n lt;
        }

    pub network_at_target : IsNetwork p → is_valid_plan p plan ≡ true → NetworkAtTarget p plan w
    network_at_target net valid =
        record {
          rates = λ t lt.
              let flow = item.Flow (tunnel_at p t).flow in
              ap (λ k. rate_at plan (stand_after p plan flow k) t) (applied_is_settled (number_of p flow) (number_of-below p flow (is_item-flow p (tunnel_at p t).flow (net.tunnels t lt).flow)))
              ∙ finished-rate p plan w.durable net valid finished t lt;
          marks = λ t h lt hop.
              let entry = item.Entry t h in
              ap (λ k. mark_at plan (stand_after p plan entry k) t) (applied_is_settled (number_of p entry) (number_of-below p entry (is_item-entry p t h lt hop)))
              ∙ finished-mark p plan w.durable valid finished t h lt hop;
        }

  module _ (start : List ℕ) (migration : ℕ) (first : List Held) (es : List Event) where
    abbrev begin : World
    begin = first_world p plan start migration first

    pub every_world_at_target : is_sound p plan start ≡ true → are_first_pairs p start migration first ≡ true → is_finished p plan (after_events p plan begin es).durable ≡ true → (n : ℕ) → n < item_count p → IsHeldAtTarget p plan begin (after_events p plan begin es) n
    every_world_at_target sound firsts finished =
        kept_at_target (after_events p plan begin es) (every_world_is_kept p plan start migration first es sound firsts) finished start migration first (goes_on_from p plan begin es)

    pub every_network_at_target : IsNetwork p → is_valid_plan p plan ≡ true → is_sound p plan start ≡ true → are_first_pairs p start migration first ≡ true → is_finished p plan (after_events p plan begin es).durable ≡ true → NetworkAtTarget p plan (after_events p plan begin es)
    every_network_at_target net valid sound firsts finished =
        network_at_target (after_events p plan begin es) (every_world_is_kept p plan start migration first es sound firsts) finished net valid

  -- so it is in a network's first migration
  pub new_network_at_target : (es : List Event) → IsNetwork p → is_valid_plan p plan ≡ true → is_finished p plan (after_events p plan (new_world p plan) es).durable ≡ true → NetworkAtTarget p plan (after_events p plan (new_world p plan) es)
  new_network_at_target es net valid finished =
      network_at_target (after_events p plan (new_world p plan) es) (every_new_world_is_kept p plan es valid) finished net valid
