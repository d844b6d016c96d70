-- One event more of a schedule.
use Rattle.std.proofs.Common.{◌≡◌, ℕ, ◌+◌, ◌<◌, true, false, cond, List, length, get_or, take, sym, ap, ◌∙◌}
use Rattle.std.proofs.lemmas.List.{take_more}
use Rattle.rollout_rules.specs.Wan.{Rollout}
use Rattle.rollout_rules.specs.World.{World, allows, happens, after_event, after_events}
use Rattle.rollout_rules.specs.declared.event.Event.{Event}
use Rattle.rollout_laws.proofs.Worlds.{after_events-push}
use Rattle.rollout_core.specs.Worlds.{Standing}

-- the world of a rollout after a schedule, from a first world
pub record IsAfter (r : Rollout) (first : World) (es : List Event) (s : Standing) : Type 0 where
  pub rollout : s.rollout ≡ r
  pub world : s.world ≡ after_events r.problem r.plan first es

module _ (r : Rollout) (first : World) (es : List Event) (i : ℕ) (e : Event) (inside : i < length es) (there : e ≡ get_or es i e) (s : Standing) (so_far : IsAfter r first (take i es) s) where
  one_more : after_event r.problem r.plan s.world e ≡ after_events r.problem r.plan first (take (i + 1) es)
  one_more =
      (λ k. after_event r.problem r.plan (so_far.world k) (there k))
      ∙ sym (ap (after_events r.problem r.plan first) (take_more es i e inside) ∙ after_events-push r.problem r.plan first (take i es) (get_or es i e))

  chosen : after_event s.rollout.problem s.rollout.plan s.world e ≡ after_events r.problem r.plan first (take (i + 1) es)
  chosen = ap (λ q. after_event q.problem q.plan s.world e) so_far.rollout ∙ one_more

  -- an event that is allowed happens
  pub is_after-happens : allows s.rollout.problem s.rollout.plan s.world e ≡ true → IsAfter r first (take (i + 1) es) (record s { world = happens s.rollout.problem s.rollout.plan s.world e })
  is_after-happens allowed = record {
    rollout = so_far.rollout;
    world = ap (λ b. cond b (happens s.rollout.problem s.rollout.plan s.world e) s.world) (sym allowed) ∙ chosen;
  }

  -- another is passed over
  pub is_after-passes : allows s.rollout.problem s.rollout.plan s.world e ≡ false → IsAfter r first (take (i + 1) es) s
  is_after-passes other = record {
    rollout = so_far.rollout;
    world = ap (λ b. cond b (happens s.rollout.problem s.rollout.plan s.world e) s.world) (sym other) ∙ chosen;
  }
