-- What is known of every takeover that a schedule leads to.
use Rattle.std.specs.Prelude.{◌≡◌, ℕ, List, ◌++◌, Option, Some, None, is_some, slice_index, IsTrue}
use Rattle.rollout_rules.specs.Wan.{Problem, Plan}
use Rattle.rollout_rules.specs.Legal.{is_sound, is_legal, is_finished}
use Rattle.rollout_rules.specs.World.{World, pair_at, first_world, are_first_pairs, held_of, now, after_events}
use Rattle.rollout_rules.specs.declared.held.Held.{Held}
use Rattle.rollout_rules.specs.declared.event.Event.{Event}
use Rattle.rollout_laws.specs.SafeWorlds.{IsSafeWorld, NetworkAtTarget}
use Rattle.takeover_rules.specs.Takeovers.{Takeover, is_all_fenced, after_two_events}
use Rattle.takeover_rules.specs.declared.event.TwoEvent.{TwoEvent}

-- The world is one of a rollout of this migration: a schedule leads to it from a sound start, and from pairs that may be held
-- at first.
pub record IsRollout (p : Problem) (plan : Plan) (migration : ℕ) (w : World) : Type 0 where
  pub start : List ℕ
  pub first : List Held
  pub events : List Event
  pub sound : IsTrue (is_sound p plan start)
  pub pairs : IsTrue (are_first_pairs p start migration first)
  pub world : w ≡ after_events p plan (first_world p plan start migration first) events

-- The newer world has begun: it is one of a rollout, so it is safe, and what it holds the switches hold.
pub record HasTakenOver (p : Problem) (plan : Plan) (migration : ℕ) (older w : World) : Type 0 where
  pub rollout : IsRollout p plan migration w
  pub safe : IsSafeWorld p plan w
  pub shared : older.held ≡ w.held

-- the network is safe by the older world until the newer one has begun, and by the newer one from then on
abbrev pub IsSafeByOne : Problem → Plan → ℕ → World → Option World → Type 0
IsSafeByOne p plan migration older None = IsSafeWorld p plan older
IsSafeByOne p plan migration older (Some w) = HasTakenOver p plan migration older w

-- The older history is legal; the newer world has begun just where all is fenced; and the network is safe by the world that
-- has it in hand.
pub record IsSafeTakeover (p : Problem) (plan : Plan) (migration : ℕ) (t : Takeover) : Type 0 where
  pub legal : IsTrue (is_legal p plan t.older.durable)
  pub begun : is_some t.newer ≡ is_all_fenced p plan t.fenced
  pub safe : IsSafeByOne p plan migration t.older t.newer

-- every takeover on the way through a schedule is safe
abbrev pub EveryTakeoverIsSafe : Problem → Plan → ℕ → Takeover → List TwoEvent → Type 0
EveryTakeoverIsSafe p plan migration t es = (front rest : List TwoEvent) → front ++ rest ≡ es → IsSafeTakeover p plan migration (after_two_events p plan t front)

-- the newer world begins item n with the number and the pair that its switch held in an earlier world
pub record BeginsWith (before : World) (n : ℕ) (w : World) : Type 0 where
  pub number : slice_index w.durable.start n ≡ now before n
  pub pair : pair_at w.first n ≡ (held_of before n).held

-- Item n is held as in an earlier world until the newer one has begun, which begins it just so.
abbrev pub WaitsForNewer : World → ℕ → World → Option World → Type 0
WaitsForNewer before n older None = held_of older n ≡ held_of before n
WaitsForNewer before n older (Some w) = BeginsWith before n w

-- neither what the switches hold has changed, nor the fences, nor the newer world
pub record LeavesAll (before after : Takeover) : Type 0 where
  pub held : after.older.held ≡ before.older.held
  pub fenced : after.fenced ≡ before.fenced
  pub newer : after.newer ≡ before.newer

-- once all is settled in the newer world, the network is at the new split
abbrev pub EndsAtTarget : Problem → Plan → Option World → Type 0
EndsAtTarget p plan None = Unit {0}
EndsAtTarget p plan (Some w) = IsTrue (is_finished p plan w.durable) → NetworkAtTarget p plan w
