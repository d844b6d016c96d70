-- Every schedule keeps a world, and a world that is kept is safe.
use Rattle.std.proofs.Common.{◌≡◌, true, ℕ, List, [], ◌∷◌, ◌++◌, refl}
use Rattle.std.proofs.lemmas.Bool.{cond_both}
use Rattle.rollout_rules.specs.Wan.{Problem, Plan}
use Rattle.rollout_rules.specs.Valid.{is_valid_plan}
use Rattle.rollout_rules.specs.History.{no_start}
use Rattle.rollout_rules.specs.Legal.{is_sound}
use Rattle.rollout_rules.specs.World.{World, first_world, are_first_pairs, no_pairs, new_world, allows, happens, after_event, after_events}
use Rattle.rollout_rules.specs.declared.held.Held.{Held}
use Rattle.rollout_rules.specs.declared.event.Event.{Event}
use Rattle.rollout_rules.specs.declared.event.Event.TheVariants as event
use Rattle.rollout_laws.specs.Kept.{IsKept}
use Rattle.rollout_laws.proofs.SoundStarts.{no_start-sound}
use Rattle.rollout_laws.proofs.Keeping.{new_pairs_are_first, first_world_is_kept, kept-Write, kept-EndWrite, kept-Send, kept-Hand, kept-Crash, kept-Restart}
use Rattle.rollout_laws.proofs.Delivery.{kept-Deliver, kept-Old}

module _ (p : Problem) (plan : Plan) where
  pub happens_is_kept : (w : World) → IsKept p plan w → (e : Event) → allows p plan w e ≡ true → IsKept p plan (happens p plan w e)
  happens_is_kept w kept (event.Write b) allowed = kept-Write p plan w kept b allowed
  happens_is_kept w kept event.EndWrite allowed = kept-EndWrite p plan w kept
  happens_is_kept w kept (event.Send n) allowed = kept-Send p plan w kept n allowed
  happens_is_kept w kept (event.Deliver n) allowed = kept-Deliver p plan w kept n allowed
  happens_is_kept w kept (event.Hand n) allowed = kept-Hand p plan w kept n allowed
  happens_is_kept w kept (event.Old n m j) allowed = kept-Old p plan w kept n m j allowed
  happens_is_kept w kept (event.Crash n) allowed = kept-Crash p plan w kept n
  happens_is_kept w kept event.Restart allowed = kept-Restart p plan w kept

  -- an event that isn't allowed is passed over
  pub after_event_is_kept : (w : World) → IsKept p plan w → (e : Event) → IsKept p plan (after_event p plan w e)
  after_event_is_kept w kept e = cond_both (allows p plan w e) (happens p plan w e) w (IsKept p plan) (happens_is_kept w kept e) (λ _. kept)

  pub after_events_is_kept : (w : World) → IsKept p plan w → (es : List Event) → IsKept p plan (after_events p plan w es)
  after_events_is_kept w kept [] = kept
  after_events_is_kept w kept (e ∷ es) = after_events_is_kept (after_event p plan w e) (after_event_is_kept w kept e) es

  pub every_world_is_kept : (start : List ℕ) (migration : ℕ) (first : List Held) (es : List Event) → is_sound p plan start ≡ true → are_first_pairs p start migration first ≡ true → IsKept p plan (after_events p plan (first_world p plan start migration first) es)
  every_world_is_kept start migration first es sound firsts =
      after_events_is_kept (first_world p plan start migration first) (first_world_is_kept p plan start migration first sound firsts) es

  pub every_new_world_is_kept : (es : List Event) → is_valid_plan p plan ≡ true → IsKept p plan (after_events p plan (new_world p plan) es)
  every_new_world_is_kept es valid = every_world_is_kept (no_start p) 0 (no_pairs p) es (no_start-sound p plan valid) (new_pairs_are_first p)

  -- a schedule in two parts, and one event more
  pub after_events-append : (w : World) (es fs : List Event) → after_events p plan w (es ++ fs) ≡ after_events p plan (after_events p plan w es) fs
  after_events-append w [] fs = refl
  after_events-append w (e ∷ es) fs = after_events-append (after_event p plan w e) es fs

  pub after_events-push : (w : World) (es : List Event) (e : Event) → after_events p plan w (es ++ e ∷ []) ≡ after_event p plan (after_events p plan w es) e
  after_events-push w es e = after_events-append w es (e ∷ [])
