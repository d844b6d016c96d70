-- What one read of commands leaves in an agent's memory, on its disk and at its controller.
use Rattle.std.specs.Prelude.{◌≡◌, ℕ, ◌≤◌, ◌==◌, true, List, ◌++◌, All, Option, Some, None, if◌then◌else◌}
use Rattle.rollout_rules.specs.Agent.{is_at_most}
use Rattle.wan_edge.specs.Frames.{CommandFrame}
use Rattle.disk_model.specs.Traces.{DiskTrace}
use Rattle.fenced_agent.specs.Agents.{FencedHoldings, after_all_termed}
use Rattle.fenced_agent.specs.Frames.{IsTermedCommand, TermedCommand}
use Rattle.disk_model.specs.Crashes.{Holds}
use Rattle.agent_state.specs.Disks.{Causes}
use Rattle.agent_state.specs.Stored.{AreBytes, IsBatch, IsKept, IsReadAs, StoredBatch, with_all, with_batch}
use Rattle.agent_state.specs.declared.fault.StateFault.{StateFault}
use Rattle.agent_state.specs.declared.place.Place.{Place}

-- The bytes of commands were added to a batch, which lead from what was held of the items to what is held now.
pub record Stores (before now : FencedHoldings) (batch batch_now : List ℕ) : Type 0 where
  pub commands : List CommandFrame
  pub more : List ℕ
  pub are : AreBytes commands more
  pub is : batch_now ≡ batch ++ more
  pub leads : now.held ≡ with_all before.held commands

-- the floor, where it was raised
abbrev pub raised : ℕ → ℕ → Option ℕ
raised before now = if now == before then None else Some now

-- The bytes are those of a batch that leads from the floor and what was held to those of now.
pub record StoresAll (before now : FencedHoldings) (bytes : List ℕ) : Type 0 where
  pub stored : StoredBatch
  pub is : IsBatch stored bytes
  pub leads : now ≡ with_batch before stored

-- All that a read gives is on the disk, and is read as this.
abbrev pub IsOnDisk : DiskTrace → Place → FencedHoldings → Type 0
IsOnDisk disk place held = Holds (IsKept place held) disk.bytes disk.may_leave

-- The image is read as what the rule of terms makes of what was held, by some commands: so the floor is no lower, and it holds no less of any item.
pub record HasCome (before : FencedHoldings) (image : List ℕ) : Type 0 where
  pub commands : List TermedCommand
  pub fit : All IsTermedCommand commands
  pub read : IsReadAs image (after_all_termed before commands)

-- Why an agent's file isn't kept any longer: its disk failed, and its count rose; or memory ran out.
abbrev pub StopsKeeping : StateFault → ℕ → ℕ → Type 0
StopsKeeping = Causes

-- What is held now is what the rule of terms makes of what was held, by these commands; the floor isn't lower, and no item has fallen back.
pub record GoesOnBy (before now : FencedHoldings) : Type 0 where
  pub commands : List TermedCommand
  pub fit : All IsTermedCommand commands
  pub are : now ≡ after_all_termed before commands
  pub no_lower : before.floor ≤ now.floor
  pub no_less : (item : ℕ) → is_at_most (before.held item).held (now.held item).held ≡ true
