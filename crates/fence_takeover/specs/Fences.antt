-- What comes of asking the switches of a rollout before it is taken over.
use Rattle.std.specs.Prelude.{◌≡◌, ◌⊎◌, ℕ, List, Result, Ok, Err}
use Rattle.rollout_rules.specs.Wan.{Plan, Problem}
use Rattle.wan_edge.specs.Ports.{PortTrace}
use Rattle.switch_ports.specs.Berths.{FleetPorts}
use Rattle.held_service.specs.Noting.{Notes}
use Rattle.held_service.specs.Visits.{Fails, TellsAll}
use Rattle.held_service.specs.declared.not_told.NotTold.{NotTold}
use Rattle.fence_takeover.specs.Ends.{end_of}
use Rattle.fence_takeover.specs.Starts.{IsTaken, IsUntaken}
use Rattle.fence_takeover.specs.declared.end.FenceEnd.{FenceEnd}
use Rattle.fence_takeover.specs.declared.end.FenceEnd.TheVariants as fence

-- The home of each item that has an operation was asked over its port, by questions that name the migration, and told what it holds. The start is what was told of
-- the migration.
pub record IsFencedOff {P : Type 0} (tell : P → PortTrace) (p : Problem) (plan : Plan) (migration limit : ℕ) (before now : FleetPorts P) (start : List ℕ) : Type 0 where
  pub notes : Notes
  pub tells : TellsAll tell p plan migration limit before now notes
  pub taken : IsTaken p plan migration notes start

-- Not all of them told.
pub record IsUntold {P : Type 0} (tell : P → PortTrace) (p : Problem) (plan : Plan) (migration limit : ℕ) (end : FenceEnd) (before now : FleetPorts P) : Type 0 where
  pub why : NotTold
  pub end_is : end ≡ end_of limit why
  pub fails : Fails tell p plan migration limit why before now

-- All told, and what one of them holds can't be taken over, or there was no memory for the start.
pub record IsStopped {P : Type 0} (tell : P → PortTrace) (p : Problem) (plan : Plan) (migration limit : ℕ) (end : FenceEnd) (before now : FleetPorts P) : Type 0 where
  pub notes : Notes
  pub tells : TellsAll tell p plan migration limit before now notes
  pub why : (end ≡ fence.Memory) ⊎ IsUntaken p plan migration notes end

abbrev pub Fences : {P : Type 0} → Result (List ℕ) FenceEnd → (P → PortTrace) → Problem → Plan → ℕ → ℕ → FleetPorts P → FleetPorts P → Type 0
Fences (Ok start) tell p plan migration limit before now = IsFencedOff tell p plan migration limit before now start
Fences (Err end) tell p plan migration limit before now = IsUntold tell p plan migration limit end before now ⊎ IsStopped tell p plan migration limit end before now
