-- A takeover in code: two worlds, and the marks of the switches.
use Rattle.std.specs.Prelude.{◌≡◌, ℕ, zero, suc, Bool, List, Option, Some, None, if◌then◌else◌, slice_index_or, slice_set}
use Rattle.rollout_rules.specs.Wan.{Problem, Plan, Rollout}
use Rattle.rollout_rules.specs.Network.{IsNetwork}
use Rattle.rollout_rules.specs.Items.{item_count}
use Rattle.rollout_rules.specs.Agent.{Holding, nothing_held}
use Rattle.rollout_rules.specs.World.{World, holding_of, after_event}
use Rattle.rollout_rules.specs.declared.event.Event.{Event}
use Rattle.rollout_core.specs.Worlds.{Standing}
use Rattle.takeover_rules.specs.Takeovers.{Takeover, takeover_of, is_fenced}
use Rattle.takeover_laws.specs.InHand.{IsHanded}

-- a takeover, with the rollout whose takeover it is
pub record Taking : Type 0 where
  pub rollout : Rollout
  pub takeover : Takeover

-- the world of a standing, where there is one
abbrev pub world_of : Option Standing → Option World
world_of None = None
world_of (Some s) = Some s.world

abbrev pub IsOwn : Rollout → Option Standing → Type 0
IsOwn r None = Unit {0}
IsOwn r (Some s) = s.rollout ≡ r

-- a takeover by its parts in code
abbrev pub taking_of : Rollout → List Bool → Standing → Option Standing → Taking
taking_of r fenced older newer = record { rollout = r; takeover = takeover_of fenced older.world (world_of newer) }

-- What the code of a takeover relies on: both worlds are of one rollout, whose network is one, and one of the two controllers
-- has it in hand, in some migration.
pub record IsTaking (r : Rollout) (fenced : List Bool) (older : Standing) (newer : Option Standing) : Type 0 where
  pub network : IsNetwork r.problem
  pub own : older.rollout ≡ r
  pub own_newer : IsOwn r newer
  pub migration : ℕ
  pub hand : IsHanded r.problem r.plan migration fenced older.world (world_of newer)

-- the item of a command that comes to a fenced switch, where the item of a command is this one
abbrev pub behind : Problem → List Bool → Option ℕ → Option ℕ
behind p fenced None = None
behind p fenced (Some n) = if is_fenced p fenced n then Some n else None

-- what the switches of a world hold once the first n items have the pairs of others
abbrev pub held_from : Problem → Plan → World → List Holding → ℕ → List Holding
held_from p plan w others zero = w.held
held_from p plan w others (suc n) = slice_set (held_from p plan w others n) n (holding_of p plan w.durable.start w.migration n (slice_index_or others n nothing_held).held)

-- a world whose switches hold this
abbrev pub world_holding : World → List Holding → World
world_holding w held = record w { held = held }

abbrev pub holding_now : Standing → List Holding → Standing
holding_now s held = record s { world = world_holding s.world held }

-- a world once all items have the pairs that another holds
abbrev pub with_pairs_of : Standing → Standing → Standing
with_pairs_of from to = holding_now to (held_from to.rollout.problem to.rollout.plan to.world from.world.held (item_count to.rollout.problem))

-- the same of a world that may not be there yet
abbrev pub newer_with_pairs : Standing → Option Standing → Option Standing
newer_with_pairs from None = None
newer_with_pairs from (Some to) = Some (with_pairs_of from to)

abbrev pub older_with_pairs : Option Standing → Standing → Standing
older_with_pairs None to = to
older_with_pairs (Some from) to = with_pairs_of from to

-- after an event of the newer world, where that has begun
abbrev pub newer_after : Option Standing → Event → Option Standing
newer_after None e = None
newer_after (Some s) e = Some (record s { world = after_event s.rollout.problem s.rollout.plan s.world e })
