-- In whose hand a rollout is: what every takeover that a schedule leads to stands on.
use Rattle.std.specs.Prelude.{◌≡◌, ℕ, ◌<◌, Bool, true, false, List, Option, Some, None, slice_index}
use Rattle.std.specs.List.{All}
use Rattle.rollout_rules.specs.Wan.{Problem, Plan}
use Rattle.rollout_rules.specs.Items.{item_count}
use Rattle.rollout_rules.specs.Legal.{may_follow, is_legal}
use Rattle.rollout_rules.specs.Agent.{is_at_most}
use Rattle.rollout_rules.specs.World.{World, number_at, pair_at, held_of}
use Rattle.rollout_laws.specs.Kept.{IsBegun, IsKept}
use Rattle.takeover_rules.specs.Takeovers.{Takeover, is_all_fenced}
use Rattle.takeover_laws.specs.SafeTakeovers.{IsRollout}

-- What stays true of the older world after the last fence, where it may hear of more than it began: its history is legal, and
-- so with what is being written, and what it sent is begun there.
pub record IsListed (p : Problem) (plan : Plan) (w : World) : Type 0 where
  pub legal : is_legal p plan w.durable ≡ true
  pub follows : may_follow p plan w.durable w.writing ≡ true
  pub sent : All (IsBegun w.durable) w.sent

-- each switch holds no less than at first
abbrev pub HoldsTheFirst : Problem → World → Type 0
HoldsTheFirst p w = (n : ℕ) → n < item_count p → is_at_most (pair_at w.first n) (held_of w n).held ≡ true

-- the older controller has the rollout in hand
pub record IsOpen (p : Problem) (plan : Plan) (migration : ℕ) (fenced : List Bool) (older : World) : Type 0 where
  pub missing : is_all_fenced p plan fenced ≡ false
  pub kept : IsKept p plan older
  pub named : older.migration ≡ migration

-- The newer one has: its world is one of a rollout, with what the switches hold. That began each item where the older world
-- had it, and none is held below what the older world began with.
pub record IsTaken (p : Problem) (plan : Plan) (migration : ℕ) (fenced : List Bool) (older w : World) : Type 0 where
  pub all : is_all_fenced p plan fenced ≡ true
  pub listed : IsListed p plan older
  pub named : older.migration ≡ migration
  pub shared : older.held ≡ w.held
  pub rollout : IsRollout p plan migration w
  pub most : HoldsTheFirst p older
  pub starts : (n : ℕ) → n < item_count p → slice_index w.durable.start n ≡ number_at migration (slice_index older.durable.start n) (pair_at w.first n)

abbrev pub IsHanded : Problem → Plan → ℕ → List Bool → World → Option World → Type 0
IsHanded p plan migration fenced older None = IsOpen p plan migration fenced older
IsHanded p plan migration fenced older (Some w) = IsTaken p plan migration fenced older w

abbrev pub IsInHand : Problem → Plan → ℕ → Takeover → Type 0
IsInHand p plan migration t = IsHanded p plan migration t.fenced t.older t.newer
