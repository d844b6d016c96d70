-- What a takeover in hand tells: it is safe, it leaves what is held to the newer world, no switch goes back, and it ends at the
-- new split.
use Rattle.std.proofs.Common.{◌≡◌, ℕ, ◌<◌, Bool, true, false, List, [], ◌∷◌, Option, Some, None, slice_index_or, refl, sym, ap, subst}
use Rattle.std.proofs.lemmas.Bool.{both_ways}
use Rattle.rollout_rules.specs.Wan.{Problem, Plan}
use Rattle.rollout_rules.specs.Network.{IsNetwork}
use Rattle.rollout_rules.specs.Valid.{is_valid_plan}
use Rattle.rollout_rules.specs.Items.{item_count}
use Rattle.rollout_rules.specs.Legal.{is_sound, is_finished}
use Rattle.rollout_rules.specs.Agent.{is_at_most, nothing_held}
use Rattle.rollout_rules.specs.World.{World, are_first_pairs, held_of}
use Rattle.rollout_rules.specs.declared.held.Held.{Held}
use Rattle.rollout_rules.specs.declared.event.Event.{Event}
use Rattle.rollout_rules.proofs.Pairs.{at_most-refl, at_most-trans}
use Rattle.rollout_laws.specs.Kept.{IsKept}
use Rattle.rollout_laws.specs.SafeWorlds.{NetworkAtTarget}
use Rattle.rollout_laws.proofs.Worlds.{every_world_is_kept}
use Rattle.rollout_laws.proofs.SafeWorlds.{kept_is_safe_world}
use Rattle.rollout_laws.proofs.Durable.{held_never_falls}
use Rattle.rollout_laws.proofs.Targets.{every_network_at_target}
use Rattle.takeover_rules.specs.Takeovers.{Takeover, takeover_of, is_fenced, is_all_fenced, first_takeover, after_step, after_two_event, after_two_events}
use Rattle.takeover_rules.specs.declared.event.TwoEvent.{TwoEvent}
use Rattle.takeover_rules.specs.declared.event.TwoEvent.TheVariants as two
use Rattle.takeover_laws.specs.SafeTakeovers.{IsRollout, IsSafeTakeover, EveryTakeoverIsSafe, WaitsForNewer, LeavesAll, EndsAtTarget}
use Rattle.takeover_laws.specs.InHand.{IsHanded, IsInHand}
use Rattle.takeover_laws.proofs.Older.{older-falls}
use Rattle.takeover_laws.proofs.Taking.{same_holding, same_newer, step-in_hand, every-in_hand}
use Rattle.takeover_laws.proofs.Waits.{IsWaiting, waiting-waits, all-wait}

module _ (p : Problem) (plan : Plan) (migration : ℕ) where
  -- the world of a rollout is safe, and ends at the new split
  pub rollout-kept : (w : World) → IsRollout p plan migration w → IsKept p plan w
  rollout-kept w r = subst (IsKept p plan) (sym r.world) (every_world_is_kept p plan r.start migration r.first r.events r.sound r.pairs)

  rollout-target : (w : World) → IsNetwork p → is_valid_plan p plan ≡ true → IsRollout p plan migration w → is_finished p plan w.durable ≡ true → NetworkAtTarget p plan w
  rollout-target w net valid r =
      subst (λ (v : World). is_finished p plan v.durable ≡ true → NetworkAtTarget p plan v) (sym r.world)
      (every_network_at_target p plan r.start migration r.first r.events net valid r.sound r.pairs)

  safe_parts : IsNetwork p → is_valid_plan p plan ≡ true → (fenced : List Bool) (older : World) (newer : Option World) → IsHanded p plan migration fenced older newer → IsSafeTakeover p plan migration (takeover_of fenced older newer)
  safe_parts net valid fenced older None hand = record {
    legal = hand.kept.legal;
    begun = sym hand.missing;
    safe = kept_is_safe_world p plan net valid older hand.kept;
  }
  safe_parts net valid fenced older (Some w) hand = record {
    legal = hand.listed.legal;
    begun = sym hand.all;
    safe = record { rollout = hand.rollout; safe = kept_is_safe_world p plan net valid w (rollout-kept w hand.rollout); shared = hand.shared };
  }

  pub in_hand-safe : IsNetwork p → is_valid_plan p plan ≡ true → (t : Takeover) → IsInHand p plan migration t → IsSafeTakeover p plan migration t
  in_hand-safe net valid t hand = safe_parts net valid t.fenced t.older t.newer hand

  target_parts : IsNetwork p → is_valid_plan p plan ≡ true → (fenced : List Bool) (older : World) (newer : Option World) → IsHanded p plan migration fenced older newer → EndsAtTarget p plan newer
  target_parts net valid fenced older None hand = tt
  target_parts net valid fenced older (Some w) hand = rollout-target w net valid hand.rollout

  module _ (net : IsNetwork p) where
    leaves_parts : (fenced : List Bool) (older : World) (newer : Option World) → IsHanded p plan migration fenced older newer → is_all_fenced p plan fenced ≡ true → (e : Event) → LeavesAll (takeover_of fenced older newer) (after_step p plan fenced older newer (two.Old e))
    leaves_parts fenced older None hand all e = absurd (both_ways (is_all_fenced p plan fenced) hand.missing all)
    leaves_parts fenced older (Some w) hand all e = record {
      held = same_holding p plan net migration fenced older w hand e;
      fenced = refl;
      newer = ap (λ (v : World). Some v) (same_newer p plan net migration fenced older w hand e);
    }

    -- no switch goes back, event by event
    falls_parts : (fenced : List Bool) (older : World) (newer : Option World) → IsHanded p plan migration fenced older newer → (e : TwoEvent) (n : ℕ) → is_at_most (held_of older n).held (held_of (after_step p plan fenced older newer e).older n).held ≡ true
    falls_parts fenced older None hand (two.Old e) n = older-falls p plan fenced older e n
    falls_parts fenced older None hand (two.Fence s) n = at_most-refl (held_of older n).held
    falls_parts fenced older None hand (two.New e) n = at_most-refl (held_of older n).held
    falls_parts fenced older (Some w) hand (two.Old e) n = older-falls p plan fenced older e n
    falls_parts fenced older (Some w) hand (two.Fence s) n = at_most-refl (held_of older n).held
    falls_parts fenced older (Some w) hand (two.New e) n =
        let v = after_step p plan fenced older (Some w) (two.New e) in
        subst (λ hs. is_at_most (slice_index_or hs n nothing_held).held (held_of v.older n).held ≡ true) (sym hand.shared) (held_never_falls p plan w (e ∷ []) n)

    pub in_hand-falls : (t : Takeover) → IsInHand p plan migration t → (es : List TwoEvent) (n : ℕ) → is_at_most (held_of t.older n).held (held_of (after_two_events p plan t es).older n).held ≡ true
    in_hand-falls t hand [] n = at_most-refl (held_of t.older n).held
    in_hand-falls t hand (e ∷ es) n =
        let u = after_two_event p plan t e in
        at_most-trans (held_of t.older n).held (held_of u.older n).held (held_of (after_two_events p plan u es).older n).held
        (falls_parts t.fenced t.older t.newer hand e n)
        (in_hand-falls u (step-in_hand p plan net migration t.fenced t.older t.newer hand e) es n)

    -- an item waits from its fence on
    waits_parts : (n : ℕ) → n < item_count p → (fenced : List Bool) (older : World) (newer : Option World) → IsHanded p plan migration fenced older newer → is_all_fenced p plan fenced ≡ false → IsWaiting older n older newer
    waits_parts n lt fenced older None hand missing = record { held = refl; number = refl }
    waits_parts n lt fenced older (Some w) hand missing = absurd (both_ways (is_all_fenced p plan fenced) missing hand.all)

    pub in_hand-waits : (t : Takeover) → IsInHand p plan migration t → is_all_fenced p plan t.fenced ≡ false → (n : ℕ) → n < item_count p → is_fenced p t.fenced n ≡ true → (es : List TwoEvent) → WaitsForNewer t.older n (after_two_events p plan t es).older (after_two_events p plan t es).newer
    in_hand-waits t hand missing n lt marked es =
        let u = after_two_events p plan t es in
        waiting-waits t.older n u.older u.newer (all-wait p plan net migration t.older n lt t hand (marked, waits_parts n lt t.fenced t.older t.newer hand missing) es).1

  -- so it is with every takeover that a schedule leads to
  module _ (start : List ℕ) (first : List Held) (es : List TwoEvent) (net : IsNetwork p) (sound : is_sound p plan start ≡ true) (firsts : are_first_pairs p start migration first ≡ true) where
    abbrev begins : Takeover
    begins = first_takeover p plan start migration first

    abbrev reached : Takeover
    reached = after_two_events p plan begins es

    pub reached-in_hand : IsInHand p plan migration reached
    reached-in_hand = every-in_hand p plan net migration start first es sound firsts

    pub reached-waits : is_all_fenced p plan reached.fenced ≡ false → (n : ℕ) → n < item_count p → is_fenced p reached.fenced n ≡ true → (more : List TwoEvent) → WaitsForNewer reached.older n (after_two_events p plan reached more).older (after_two_events p plan reached more).newer
    reached-waits missing n lt marked more = in_hand-waits net reached reached-in_hand missing n lt marked more

    pub reached-leaves : is_all_fenced p plan reached.fenced ≡ true → (e : Event) → LeavesAll reached (after_two_event p plan reached (two.Old e))
    reached-leaves all e = leaves_parts net reached.fenced reached.older reached.newer reached-in_hand all e

    pub reached-falls : (more : List TwoEvent) (n : ℕ) → is_at_most (held_of reached.older n).held (held_of (after_two_events p plan reached more).older n).held ≡ true
    reached-falls more n = in_hand-falls net reached reached-in_hand more n

    pub reached-target : is_valid_plan p plan ≡ true → EndsAtTarget p plan reached.newer
    reached-target valid = target_parts net valid reached.fenced reached.older reached.newer reached-in_hand

  pub every_takeover_is_safe : (start : List ℕ) (first : List Held) (es : List TwoEvent) → IsNetwork p → is_valid_plan p plan ≡ true → is_sound p plan start ≡ true → are_first_pairs p start migration first ≡ true → EveryTakeoverIsSafe p plan migration (first_takeover p plan start migration first) es
  every_takeover_is_safe start first es net valid sound firsts front rest same =
      in_hand-safe net valid (after_two_events p plan (first_takeover p plan start migration first) front) (every-in_hand p plan net migration start first front sound firsts)
