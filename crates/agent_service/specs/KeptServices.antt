-- What the serving of guests by an agent with a file comes to.
use Rattle.std.specs.Prelude.{◌≡◌, ◌⊎◌, ⊤, ℕ, List, length, Option, Some, None, IfSome}
use Rattle.wan_edge.specs.Streams.{Rose}
use Rattle.fenced_agent.specs.Agents.{FencedHoldings}
use Rattle.disk_model.specs.Moments.{LeavesOnly}
use Rattle.disk_model.specs.Traces.{DiskTrace}
use Rattle.fenced_agent.specs.Agents.{FencedItems, fenced_holding}
use Rattle.agent_state.specs.Disks.{RoseAtDisk}
use Rattle.agent_state.specs.Opened.{ReadsAlike}
use Rattle.agent_state.specs.Stored.{IsReadAs}
use Rattle.agent_state.specs.declared.place.Place.{Place}
use Rattle.agent_service.specs.Keeping.{HasCome, IsOnDisk, StopsKeeping}
use Rattle.agent_service.specs.Services.{Guests, HasServed, Table, Tells, TurnByTurn, Turns, after_leaving, counted, first_table}
use Rattle.agent_service.specs.declared.keep_fault.KeepFault.{KeepFault}
use Rattle.agent_service.specs.declared.keep_fault.KeepFault.TheVariants.{Fleet, NoRoom, State}
use Rattle.agent_service.specs.declared.service.Service.{Service}

-- From these items guests were served turn by turn, as many as were asked for, or fewer since no more come and nobody sits, and so much was counted. Whoever
-- sat at the end was given back, and counts no further.
pub record ServesFrom {G : Type 0} (tells : Tells G) (items : FencedItems) (before now : Guests G) (asked : ℕ) (items_now : FencedItems) (service : Service) : Type 0 where
  pub course : List (Table G)
  pub end : Table G
  pub goes : TurnByTurn tells (first_table items before) course end
  pub ends : HasServed asked end
  pub holds : items_now ≡ end.items
  pub counts : service ≡ end.count
  pub coming : now.coming ≡ end.coming
  pub back : now.served ≡ after_leaving end.back end.guests

-- The same while the guests still sit.
pub record KeepsSeated {G : Type 0} (tells : Tells G) (first : Table G) (asked : ℕ) (guests : List G) (items_now : FencedItems) (service : Service) (now : Guests G) : Type 0 where
  pub course : List (Table G)
  pub end : Table G
  pub goes : TurnByTurn tells first course end
  pub ends : HasServed asked end
  pub holds : items_now ≡ end.items
  pub counts : service ≡ end.count
  pub sits : end.guests ≡ guests
  pub coming : end.coming ≡ now.coming
  pub back : end.back ≡ now.served

-- a turn, or nothing happened, since no more come and nobody sits
abbrev pub KeepsTurn : {G : Type 0} → Tells G → Table G → Option (Place × Service) → Table G → Type 0
KeepsTurn tells before (Some kept) now = Turns tells before (counted now kept.1)
KeepsTurn tells before None now = (now ≡ before) × IfSome before.coming (λ later. (length later ≡ 0) × (length before.guests ≡ 0))

-- what is held after a turn is on the disk, or nothing has changed there
abbrev pub IsKeptBehind : DiskTrace → Place → Option (Place × Service) → FencedHoldings → Type 0
IsKeptBehind disk place (Some kept) held = IsOnDisk disk kept.0 held
IsKeptBehind disk place None held = IsOnDisk disk place held

-- a guest sat down, and all that is held is on the disk as it was
abbrev pub at_place : Place → Option Service → Option (Place × Service)
at_place place (Some count) = Some (place, count)
at_place place None = None

-- a crash at any moment leaves what the rule of terms makes of this by some commands
abbrev pub HasComeAlways : {D : Type 0} → (D → DiskTrace) → D → D → FencedHoldings → Type 0
HasComeAlways trace old new held = IfSome (trace old).bytes (λ _. LeavesOnly trace old new (HasCome held))

-- somewhere on the disk stands what is held, and a crash leaves it
abbrev pub IsHeldOnDisk : DiskTrace → FencedHoldings → Type 0
IsHeldOnDisk disk held = (place : Place) × IsOnDisk disk place held

-- a cause has its count risen
abbrev pub StopsService : KeepFault → ℕ → ℕ → ℕ → ℕ → Type 0
StopsService Fleet fleet fleet_now disk disk_now = Rose fleet fleet_now
StopsService NoRoom fleet fleet_now disk disk_now = ⊤
StopsService (State why) fleet fleet_now disk disk_now = StopsKeeping why disk disk_now

-- The same of the whole: besides, the image may be none of an agent's.
abbrev pub EndsService : KeepFault → ℕ → ℕ → ℕ → ℕ → Type 0
EndsService Fleet fleet fleet_now disk disk_now = Rose fleet fleet_now
EndsService NoRoom fleet fleet_now disk disk_now = ⊤
EndsService (State why) fleet fleet_now disk disk_now = RoseAtDisk why disk disk_now

-- From this on guests were served turn by turn, and after that all that the agent holds is on the disk.
pub record KeepsFrom {D G : Type 0} (trace : D → DiskTrace) (tells : Tells G) (items : FencedItems) (new : D) (before now : Guests G) (asked : ℕ) (service : Service) : Type 0 where
  pub items_now : FencedItems
  pub serves : ServesFrom tells items before now asked items_now service
  pub durable : IsHeldOnDisk (trace new) (fenced_holding items_now)

-- The image is read as what the rule of terms makes of what the other was read as, by some commands.
pub record HasGoneOn (image c : List ℕ) : Type 0 where
  pub held : FencedHoldings
  pub read : IsReadAs image held
  pub come : HasCome held c

-- Whenever a crash comes, it leaves an image that might have been left at first, or one that is read alike, or one that is read as what the rule of
-- terms makes of what that one was read as: so nothing that was held is lost, and neither the floor nor an item falls back.
abbrev pub MayBeLeft : (List ℕ → Type 0) → List ℕ → List ℕ → Type 0
MayBeLeft left image c = left c ⊎ (ReadsAlike image c ⊎ HasGoneOn image c)

-- The whole of an agent with a file that ended by itself. What its disk told when it was opened was read as what the agent held from the start, and guests
-- were served turn by turn from there.
pub record KeepsGuests {D G : Type 0} (trace : D → DiskTrace) (tells : Tells G) (old new : D) (before now : Guests G) (asked : ℕ) (service : Service) : Type 0 where
  pub items : FencedItems
  pub found : IfSome (trace old).bytes (λ image. IsReadAs image (fenced_holding items))
  pub keeps : KeepsFrom trace tells items new before now asked service
