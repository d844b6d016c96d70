-- What is read of an agent's file as it is opened.
use Rattle.std.specs.Prelude.{◌≡◌, ⊤, ℕ, ◌+◌, ◌<◌, ◌≤◌, ◌^◌, ◌==◌, ◌&&◌, nat_lt, Bool, List, [], ◌∷◌, ◌++◌, length, take, drop, Option, Some, None, if◌then◌else◌}
use Rattle.wan_edge.specs.Frames.{CommandFrame, IsCommand, command_bytes}
use Rattle.fenced_agent.specs.Agents.{FencedHoldings}
use Rattle.fenced_agent.specs.Frames.{fence_bytes}
use Rattle.agent_state.specs.Batches.{Stands, batches_of, open_gate}
use Rattle.agent_state.specs.Images.{batches_in, first_start, is_second, made_length, start_at, state_kind}
use Rattle.disk_model.specs.Numbers.{byte_at, number_4}
use Rattle.agent_state.specs.States.{HasPart}
use Rattle.agent_state.specs.Stored.{AreBytes, IsBatch, Leaves, StoredBatch, home_of, nothing_yet, with_batch, with_commands}
use Rattle.agent_state.specs.declared.fault.StateFault.{StateFault}
use Rattle.agent_state.specs.declared.fault.StateFault.TheVariants.{Damaged, Disk, Memory, NotState}
use Rattle.agent_state.specs.declared.place.Place.{Place}

-- how many bytes the batch after a gate has, where the gate is open, the batch is whole and a byte stands after it
abbrev pub batch_at : List ℕ → ℕ → Option ℕ
batch_at bytes gate =
    if (byte_at gate bytes == open_gate) && nat_lt (4 + number_4 (drop (gate + 1) bytes)) (length (drop (gate + 1) bytes))
    then Some (number_4 (drop (gate + 1) bytes)) else None

-- The bytes are those of a command at their front, of so many bytes.
pub record BeginsWith (bytes : List ℕ) (count : ℕ) (command : CommandFrame) : Type 0 where
  pub some : 0 < count
  pub within : count < length bytes + 1
  pub fits : IsCommand command
  pub is : command_bytes command ≡ take count bytes

-- Commands with these bytes were put in the place of what was held.
pub record Restores (before now : FencedHoldings) (bytes : List ℕ) : Type 0 where
  pub commands : List CommandFrame
  pub are : AreBytes commands bytes
  pub holds : now ≡ with_commands before commands

-- In front of the bytes stands this floor.
pub record HasFloor (floor : ℕ) (bytes : List ℕ) : Type 0 where
  pub small : floor < 2 ^ 32
  pub parts : bytes ≡ fence_bytes (Some floor) ++ drop 5 bytes

-- A batch with these bytes was put in the place of what was held.
pub record RestoresBatch (before now : FencedHoldings) (bytes : List ℕ) : Type 0 where
  pub batch : StoredBatch
  pub is : IsBatch batch bytes
  pub holds : now ≡ with_batch before batch

-- The batches of a part up to this gate were read, and lead to this.
pub record Walks (part : List ℕ) (gate : ℕ) (held : FencedHoldings) : Type 0 where
  pub within : gate < length part
  pub kept : List (List ℕ)
  pub stands : Stands (take gate part) kept
  pub leaves : Leaves nothing_yet kept held

-- The image is an agent's, with a live part that starts here.
pub record HasLive (place : Place) (image : List ℕ) : Type 0 where
  pub kind : byte_at 0 image ≡ state_kind
  pub side : is_second image ≡ place.second
  pub start : start_at place.second image ≡ place.start
  pub low : first_start ≤ place.start
  pub within : place.start < length image

-- The image was read: at this place the last batch ends, and after it no other counts, though its gate may be open, which is said too.
pub record IsFound (place : Place) (cut : Bool) (held : FencedHoldings) (image : List ℕ) : Type 0 where
  pub front : List ℕ
  pub mark : ℕ
  pub behind : List ℕ
  pub has : HasPart (home_of place) front (mark ∷ behind) image
  pub kept : List (List ℕ)
  pub stands : Stands front kept
  pub none : batches_of (mark ∷ behind) ≡ []
  pub at : place.gate ≡ place.start + length front
  pub long : made_length < length image
  pub leaves : Leaves nothing_yet kept held
  pub is_cut : cut ≡ (mark == open_gate)

-- an image in which nothing stands yet
abbrev pub IsBlank : List ℕ → Type 0
IsBlank image = length image ≤ made_length

-- the image is read as the other is
abbrev pub ReadsAlike : List ℕ → List ℕ → Type 0
ReadsAlike image c = batches_in c ≡ batches_in image

-- An image that isn't opened: of something else, with this first byte.
abbrev pub IsRefused : StateFault → List ℕ → Type 0
IsRefused Disk image = ⊤
IsRefused Memory image = ⊤
IsRefused (NotState first) image = (batches_in image ≡ None) × (byte_at 0 image ≡ first)
IsRefused (Damaged place) image = ⊤

-- Why an image that was read isn't opened: it is of something else, a batch of it is damaged, or memory ran out.
abbrev pub IsMisread : StateFault → List ℕ → Type 0
IsMisread Disk image = ⊥
IsMisread Memory image = ⊤
IsMisread (NotState first) image = (batches_in image ≡ None) × (byte_at 0 image ≡ first)
IsMisread (Damaged place) image = ⊤

-- why the batches of an image that is an agent's aren't read to their end
abbrev pub IsMidway : StateFault → Type 0
IsMidway Disk = ⊥
IsMidway Memory = ⊤
IsMidway (NotState first) = ⊥
IsMidway (Damaged place) = ⊤
