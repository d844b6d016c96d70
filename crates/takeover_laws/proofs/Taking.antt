-- What every takeover that a schedule leads to stands on: the older world is kept until the last fence; after it its history
-- stays legal, and the newer world is one of a rollout over the same switches.
use Rattle.std.proofs.Common.{◌≡◌, ℕ, ◌<◌, Bool, true, List, [], ◌∷◌, ◌++◌, Option, Some, None, slice_index, slice_index_or, slice_set, refl, sym, ap, ◌∙◌, subst}
use Rattle.std.proofs.lemmas.Bool.{cond_both}
use Rattle.std.proofs.lemmas.List.{get_or-map}
use Rattle.rollout_rules.specs.Wan.{Problem, Plan}
use Rattle.rollout_rules.specs.Network.{IsNetwork}
use Rattle.rollout_rules.specs.Items.{item_count}
use Rattle.rollout_rules.specs.Legal.{is_sound}
use Rattle.rollout_rules.specs.Agent.{first_pair, is_at_most, nothing_held}
use Rattle.rollout_rules.specs.World.{World, number_at, pair_at, first_world, are_first_pairs, held_of, now, after_event}
use Rattle.rollout_rules.specs.declared.held.Held.{Held}
use Rattle.rollout_rules.specs.declared.event.Event.{Event}
use Rattle.rollout_rules.proofs.Pairs.{at_most-trans}
use Rattle.rollout_rules.proofs.Rows.{list_below-at}
use Rattle.rollout_laws.specs.Kept.{IsKept}
use Rattle.rollout_laws.specs.SafeWorlds.{applied, pairs_held}
use Rattle.rollout_laws.proofs.Keeping.{first_world_is_kept}
use Rattle.rollout_laws.proofs.Worlds.{after_events-push}
use Rattle.rollout_laws.proofs.Durable.{goes_on_from, held_never_falls}
use Rattle.rollout_laws.proofs.Again.{applied_is_sound, may_go_on, goes_on_as_held}
use Rattle.takeover_rules.specs.Takeovers.{Takeover, is_all_fenced, after_older, taken_over, newer_world, no_fences, first_takeover, after_step, after_two_event, after_two_events}
use Rattle.takeover_rules.specs.declared.event.TwoEvent.{TwoEvent}
use Rattle.takeover_rules.specs.declared.event.TwoEvent.TheVariants as two
use Rattle.takeover_laws.specs.InHand.{HoldsTheFirst, IsTaken, IsHanded, IsInHand}
use Rattle.takeover_laws.proofs.Fences.{all_fenced-more}
use Rattle.takeover_laws.proofs.Older.{kept-listed, listed-holding, older-listed, older-from, older-kept, older-holds}

module _ (p : Problem) (plan : Plan) where
  -- the pair that an item is held with, and how far it has come, as the newer world begins with them
  module _ (w : World) (kept : IsKept p plan w) (n : ℕ) (lt : n < item_count p) where
    pub nth_pair : pair_at (pairs_held w) n ≡ (held_of w n).held
    nth_pair = get_or-map (λ v. v.held) w.held n nothing_held first_pair (subst (λ k. n < k) (sym kept.items) lt)

    pub nth_applied : slice_index (applied p w) n ≡ now w n
    nth_applied = list_below-at (item_count p) (now w) n 0 lt

  module _ (net : IsNetwork p) (migration : ℕ) where
    -- The newer world begins as a rollout from a sound start does, which is what the older world's switches hold.
    begins : (fenced : List Bool) (w : World) → IsKept p plan w → w.migration ≡ migration → is_all_fenced p plan fenced ≡ true → IsTaken p plan migration fenced w (taken_over p plan w)
    begins fenced w kept named all = record {
      all = all;
      listed = kept-listed p plan w kept;
      named = named;
      shared = sym (goes_on_as_held p plan w kept);
      rollout = record {
        start = applied p w;
        first = pairs_held w;
        events = [];
        sound = applied_is_sound p plan w kept net;
        pairs = subst (λ (m : ℕ). are_first_pairs p (applied p w) m (pairs_held w) ≡ true) named (may_go_on p plan w kept);
        world = ap (λ (m : ℕ). first_world p plan (applied p w) m (pairs_held w)) named;
      };
      most = λ n lt. (kept.held n lt).least;
      starts = λ n lt.
          nth_applied w kept n lt
          ∙ ap (λ (m : ℕ). number_at m (slice_index w.durable.start n) (held_of w n).held) named
          ∙ ap (number_at migration (slice_index w.durable.start n)) (sym (nth_pair w kept n lt));
    }

    -- so it is with the marks that stand, as soon as they are enough
    pub handed-fences : (fenced : List Bool) (older : World) → IsKept p plan older → older.migration ≡ migration → IsHanded p plan migration fenced older (newer_world p plan fenced older None)
    handed-fences fenced older kept named =
        cond_both (is_all_fenced p plan fenced) (Some (taken_over p plan older)) None (IsHanded p plan migration fenced older)
        (λ all. begins fenced older kept named all)
        (λ missing. record { missing = missing; kept = kept; named = named })

    -- a fence more
    handed-Fence : (fenced : List Bool) (older : World) (newer : Option World) → IsHanded p plan migration fenced older newer → (s : ℕ) → IsHanded p plan migration (slice_set fenced s true) older (newer_world p plan (slice_set fenced s true) older newer)
    handed-Fence fenced older None was s = handed-fences (slice_set fenced s true) older was.kept was.named
    handed-Fence fenced older (Some w) was s = record {
      all = all_fenced-more p plan fenced s was.all;
      listed = was.listed;
      named = was.named;
      shared = was.shared;
      rollout = was.rollout;
      most = was.most;
      starts = was.starts;
    }

    -- an event of the older controller after the last fence leaves the newer world as it is
    module _ (fenced : List Bool) (older w : World) (was : IsTaken p plan migration fenced older w) (e : Event) where
      abbrev then_older : World
      then_older = after_older p plan fenced older e

      pub same_holding : then_older.held ≡ older.held
      same_holding = older-holds p plan fenced older was.all was.listed was.most e

      pub same_newer : record w { held = then_older.held } ≡ w
      same_newer = ap (λ hs. record w { held = hs }) (same_holding ∙ was.shared)

      then_most : HoldsTheFirst p then_older
      then_most n lt =
          subst (λ (pairs : List Held). is_at_most (pair_at pairs n) (held_of then_older n).held ≡ true) (sym (older-from p plan fenced older e).first)
          (subst (λ hs. is_at_most (pair_at older.first n) (slice_index_or hs n nothing_held).held ≡ true) (sym same_holding) (was.most n lt))

      taken-Old : IsTaken p plan migration fenced then_older w
      taken-Old = record {
        all = was.all;
        listed = older-listed p plan fenced older e was.listed;
        named = (older-from p plan fenced older e).migration ∙ was.named;
        shared = same_holding ∙ was.shared;
        rollout = was.rollout;
        most = then_most;
        starts = λ n lt. was.starts n lt ∙ ap (λ (start : List ℕ). number_at migration (slice_index start n) (pair_at w.first n)) (sym (older-from p plan fenced older e).start);
      }

    -- an event of the newer one is one more of its rollout
    module _ (fenced : List Bool) (older w : World) (was : IsTaken p plan migration fenced older w) (e : Event) where
      abbrev then_newer : World
      then_newer = after_event p plan w e

      taken-New : IsTaken p plan migration fenced (record older { held = then_newer.held }) then_newer
      taken-New =
          let r = was.rollout in
          let from = goes_on_from p plan w (e ∷ []) in
          record {
            all = was.all;
            listed = listed-holding p plan older then_newer.held was.listed;
            named = was.named;
            shared = refl;
            rollout = record {
              start = r.start;
              first = r.first;
              events = r.events ++ e ∷ [];
              sound = r.sound;
              pairs = r.pairs;
              world = ap (λ (v : World). after_event p plan v e) r.world ∙ sym (after_events-push p plan (first_world p plan r.start migration r.first) r.events e);
            };
            most = λ n lt.
                at_most-trans (pair_at older.first n) (held_of w n).held (held_of then_newer n).held
                (subst (λ hs. is_at_most (pair_at older.first n) (slice_index_or hs n nothing_held).held ≡ true) was.shared (was.most n lt))
                (held_never_falls p plan w (e ∷ []) n);
            starts = λ n lt.
                ap (λ (start : List ℕ). slice_index start n) from.start
                ∙ was.starts n lt
                ∙ ap (λ (pairs : List Held). number_at migration (slice_index older.durable.start n) (pair_at pairs n)) (sym from.first);
          }

    -- so each event keeps a takeover in hand
    pub step-in_hand : (fenced : List Bool) (older : World) (newer : Option World) → IsHanded p plan migration fenced older newer → (e : TwoEvent) → IsInHand p plan migration (after_step p plan fenced older newer e)
    step-in_hand fenced older None was (two.Old e) = record {
      missing = was.missing;
      kept = older-kept p plan fenced older was.kept e;
      named = (older-from p plan fenced older e).migration ∙ was.named;
    }
    step-in_hand fenced older (Some w) was (two.Old e) =
        subst (IsTaken p plan migration fenced (after_older p plan fenced older e)) (sym (same_newer fenced older w was e)) (taken-Old fenced older w was e)
    step-in_hand fenced older None was (two.Fence s) = handed-Fence fenced older None was s
    step-in_hand fenced older (Some w) was (two.Fence s) = handed-Fence fenced older (Some w) was s
    step-in_hand fenced older None was (two.New e) = was
    step-in_hand fenced older (Some w) was (two.New e) = taken-New fenced older w was e

    -- and so does every schedule
    pub all-in_hand : (t : Takeover) → IsInHand p plan migration t → (es : List TwoEvent) → IsInHand p plan migration (after_two_events p plan t es)
    all-in_hand t was [] = was
    all-in_hand t was (e ∷ es) = all-in_hand (after_two_event p plan t e) (step-in_hand t.fenced t.older t.newer was e) es

    -- from a sound start, with pairs that may be held at first
    pub every-in_hand : (start : List ℕ) (first : List Held) (es : List TwoEvent) → is_sound p plan start ≡ true → are_first_pairs p start migration first ≡ true → IsInHand p plan migration (after_two_events p plan (first_takeover p plan start migration first) es)
    every-in_hand start first es sound firsts =
        all-in_hand (first_takeover p plan start migration first)
        (handed-fences (no_fences p) (first_world p plan start migration first) (first_world_is_kept p plan start migration first sound firsts) refl)
        es
