-- From its fence on an item is held as it is, until the newer world begins with just that.
use Rattle.std.proofs.Common.{◌≡◌, ℕ, ◌<◌, Bool, true, List, [], ◌∷◌, Option, Some, None, slice_index, slice_set, ap, ◌∙◌}
use Rattle.std.proofs.lemmas.Bool.{cond_both}
use Rattle.rollout_rules.specs.Wan.{Problem, Plan}
use Rattle.rollout_rules.specs.Network.{IsNetwork}
use Rattle.rollout_rules.specs.Items.{item_count}
use Rattle.rollout_rules.specs.Agent.{Holding}
use Rattle.rollout_rules.specs.World.{World, number_at, pair_at, held_of, now}
use Rattle.rollout_rules.specs.declared.held.Held.{Held}
use Rattle.rollout_rules.specs.declared.event.Event.{Event}
use Rattle.rollout_laws.specs.Kept.{IsKept}
use Rattle.rollout_laws.proofs.Durable.{goes_on_from}
use Rattle.takeover_rules.specs.Takeovers.{Takeover, is_fenced, is_all_fenced, after_older, taken_over, newer_world, after_step, after_two_event, after_two_events}
use Rattle.takeover_rules.specs.declared.event.TwoEvent.{TwoEvent}
use Rattle.takeover_rules.specs.declared.event.TwoEvent.TheVariants as two
use Rattle.takeover_laws.specs.SafeTakeovers.{BeginsWith, WaitsForNewer}
use Rattle.takeover_laws.specs.InHand.{IsHanded, IsInHand}
use Rattle.takeover_laws.proofs.Fences.{fenced-more}
use Rattle.takeover_laws.proofs.Older.{older-from, older-waits}
use Rattle.takeover_laws.proofs.Taking.{nth_pair, nth_applied, step-in_hand}

-- an item is held as in an earlier world, and has come as far
pub record IsHeldAs (before : World) (n : ℕ) (older : World) : Type 0 where
  pub held : held_of older n ≡ held_of before n
  pub number : now older n ≡ now before n

abbrev pub IsWaiting : World → ℕ → World → Option World → Type 0
IsWaiting before n older None = IsHeldAs before n older
IsWaiting before n older (Some w) = BeginsWith before n w

abbrev pub Waits : Problem → World → ℕ → Takeover → Type 0
Waits p before n t = (is_fenced p t.fenced n ≡ true) × IsWaiting before n t.older t.newer

pub waiting-waits : (before : World) (n : ℕ) (older : World) (newer : Option World) → IsWaiting before n older newer → WaitsForNewer before n older newer
waiting-waits before n older None is = is.held
waiting-waits before n older (Some w) is = is

module _ (p : Problem) (plan : Plan) (net : IsNetwork p) (migration : ℕ) (before : World) (n : ℕ) (lt : n < item_count p) where
  -- how far an item has come, by what its world is made of
  number_of-parts : (older : World) (m : ℕ) (start : List ℕ) (held : Holding) → older.migration ≡ m → older.durable.start ≡ start → held_of older n ≡ held → now older n ≡ number_at m (slice_index start n) held.held
  number_of-parts older m start held named from is =
      ap (λ (k : ℕ). number_at k (slice_index older.durable.start n) (held_of older n).held) named
      ∙ ap (λ (s : List ℕ). number_at m (slice_index s n) (held_of older n).held) from
      ∙ ap (λ (h : Holding). number_at m (slice_index start n) h.held) is

  waits-Old : (fenced : List Bool) (older : World) → is_fenced p fenced n ≡ true → IsHeldAs before n older → (e : Event) → IsHeldAs before n (after_older p plan fenced older e)
  waits-Old fenced older marked was e =
      let from = older-from p plan fenced older e in
      let same = older-waits p plan fenced older n marked e in
      record {
        held = same ∙ was.held;
        number = number_of-parts (after_older p plan fenced older e) older.migration older.durable.start (held_of older n) from.migration from.start same ∙ was.number;
      }

  waits-Fence : (fenced : List Bool) (older : World) → IsKept p plan older → IsHeldAs before n older → IsWaiting before n older (newer_world p plan fenced older None)
  waits-Fence fenced older kept was =
      cond_both (is_all_fenced p plan fenced) (Some (taken_over p plan older)) None (IsWaiting before n older)
      (λ _. record {
        number = nth_applied p plan older kept n lt ∙ was.number;
        pair = nth_pair p plan older kept n lt ∙ ap (λ (h : Holding). h.held) was.held;
      })
      (λ _. was)

  step-waits : (fenced : List Bool) (older : World) (newer : Option World) → IsHanded p plan migration fenced older newer → is_fenced p fenced n ≡ true → IsWaiting before n older newer → (e : TwoEvent) → Waits p before n (after_step p plan fenced older newer e)
  step-waits fenced older None hand marked was (two.Old e) = (marked, waits-Old fenced older marked was e)
  step-waits fenced older (Some w) hand marked was (two.Old e) = (marked, record { number = was.number; pair = was.pair })
  step-waits fenced older None hand marked was (two.Fence s) = (fenced-more p fenced s n marked, waits-Fence (slice_set fenced s true) older hand.kept was)
  step-waits fenced older (Some w) hand marked was (two.Fence s) = (fenced-more p fenced s n marked, was)
  step-waits fenced older None hand marked was (two.New e) = (marked, was)
  step-waits fenced older (Some w) hand marked was (two.New e) =
      let from = goes_on_from p plan w (e ∷ []) in (
        marked,
        record {
          number = ap (λ (start : List ℕ). slice_index start n) from.start ∙ was.number;
          pair = ap (λ (pairs : List Held). pair_at pairs n) from.first ∙ was.pair;
        },
      )

  pub all-wait : (t : Takeover) → IsInHand p plan migration t → Waits p before n t → (es : List TwoEvent) → Waits p before n (after_two_events p plan t es)
  all-wait t hand was [] = was
  all-wait t hand was (e ∷ es) =
      all-wait (after_two_event p plan t e) (step-in_hand p plan net migration t.fenced t.older t.newer hand e)
      (step-waits t.fenced t.older t.newer hand was.0 was.1 e) es
