-- What an agent's file keeps: a row of batches, each with the floor that it raised, where it did, and a row of the commands that changed something, and what
-- is held after them.
use Rattle.std.specs.Prelude.{◌≡◌, ◌⊎◌, ℕ, ◌+◌, ◌<◌, ◌≤◌, ◌^◌, ◌==◌, List, [], ◌∷◌, ◌++◌, All, Option, Some, None, if◌then◌else◌}
use Rattle.std.specs.List.{flat_map}
use Rattle.rollout_rules.specs.Agent.{is_next_command}
use Rattle.wan_edge.specs.Frames.{CommandFrame, IsCommand, command_bytes}
use Rattle.wan_edge.specs.Switches.{Holdings, after_command, holding_nothing, pair_asked}
use Rattle.switch_agent.specs.Items.{Items, with_stored}
use Rattle.fenced_agent.specs.Agents.{FencedHoldings, FencedItems}
use Rattle.fenced_agent.specs.Frames.{fence_bytes, term_of}
use Rattle.agent_state.specs.Batches.{batch_body, open_gate}
use Rattle.agent_state.specs.Images.{batches_in, first_start}
use Rattle.agent_state.specs.States.{Home, IsAtRest}
use Rattle.agent_state.specs.declared.place.Place.{Place}

-- ---- what is held

-- commands that were carried out before, one after the other
abbrev pub with_all : Holdings → List CommandFrame → Holdings
with_all holdings [] = holdings
with_all holdings (c ∷ cs) = with_all (with_stored holdings c) cs

-- the commands that change something, of those that come one after the other
abbrev pub if_changing : Holdings → CommandFrame → List CommandFrame
if_changing holdings c = if is_next_command (holdings c.1.item).held (pair_asked c) then c ∷ [] else []

abbrev pub changing : Holdings → List CommandFrame → List CommandFrame
changing holdings [] = []
changing holdings (c ∷ cs) = if_changing holdings c ++ changing (after_command holdings c) cs

-- the commands that were carried out last, of an item each
abbrev pub last_of : ℕ → Option CommandFrame → List CommandFrame
last_of item None = []
last_of item (Some c) = (c.0, record c.1 { item = item }) ∷ []

abbrev pub last_commands : Items → List CommandFrame
last_commands [] = []
last_commands (e ∷ es) = last_of e.0 e.1 ++ last_commands es

-- ---- what is stored

-- the bytes are those of these commands, one after the other
pub record AreBytes (commands : List CommandFrame) (bytes : List ℕ) : Type 0 where
  pub fit : All IsCommand commands
  pub is : bytes ≡ flat_map command_bytes commands

-- the bytes of these commands were added
pub record AddsBytes (commands : List CommandFrame) (before now : List ℕ) : Type 0 where
  pub more : List ℕ
  pub are : AreBytes commands more
  pub is : now ≡ before ++ more

-- a batch: the floor that it raised, where it did, and its commands
pub record StoredBatch : Type 0 where
  pub floor : Option ℕ
  pub commands : List CommandFrame

-- The bytes are those of a batch: its floor, as it stands in front of a frame, and its commands after it.
pub record IsBatch (batch : StoredBatch) (bytes : List ℕ) : Type 0 where
  pub in_floor : term_of batch.floor < 2 ^ 32
  pub behind : List ℕ
  pub parts : bytes ≡ fence_bytes batch.floor ++ behind
  pub are : AreBytes batch.commands behind

abbrev pub floor_behind : Option ℕ → ℕ → ℕ
floor_behind None floor = floor
floor_behind (Some raised) floor = raised

-- with commands that were carried out before
abbrev pub with_commands : FencedHoldings → List CommandFrame → FencedHoldings
with_commands held commands = record { floor = held.floor; held = with_all held.held commands }

-- after a batch
abbrev pub with_batch : FencedHoldings → StoredBatch → FencedHoldings
with_batch held batch = record { floor = floor_behind batch.floor held.floor; held = with_all held.held batch.commands }

-- what an agent holds that heard of no term and carried nothing out
abbrev pub nothing_yet : FencedHoldings
nothing_yet = record { floor = 0; held = holding_nothing }

-- the floor as it is kept: 0 isn't
abbrev pub kept_floor : ℕ → Option ℕ
kept_floor floor = if floor == 0 then None else Some floor

-- the batch from which all follows that an agent holds
abbrev pub last_batch : FencedItems → StoredBatch
last_batch f = record { floor = kept_floor f.floor; commands = last_commands f.items }

-- From what is held before, these batches lead to what is held now.
abbrev pub Leaves : FencedHoldings → List (List ℕ) → FencedHoldings → Type 0
Leaves before [] now = now ≡ before
Leaves before (bytes ∷ later) now = (batch : StoredBatch) × IsBatch batch bytes × Leaves (with_batch before batch) later now

-- The image is read as this.
pub record IsReadAs (image : List ℕ) (held : FencedHoldings) : Type 0 where
  pub kept : List (List ℕ)
  pub read : batches_in image ≡ Some kept
  pub leaves : Leaves nothing_yet kept held

-- the image is read as the one or as the other
abbrev pub IsBeforeOrAfter : FencedHoldings → FencedHoldings → List ℕ → Type 0
IsBeforeOrAfter before now image = IsReadAs image before ⊎ IsReadAs image now

-- ---- where a file stands

abbrev pub home_of : Place → Home
home_of place = record { second = place.second; start = place.start }

-- The file is at rest at this place, with batches that lead to this.
pub record IsKept (place : Place) (held : FencedHoldings) (image : List ℕ) : Type 0 where
  pub kept : List (List ℕ)
  pub rest : IsAtRest (home_of place) place.gate kept image
  pub leaves : Leaves nothing_yet kept held

-- the bytes of a part with this one batch, after which stands a closed gate
abbrev pub part_bytes : List ℕ → List ℕ
part_bytes batch = open_gate ∷ (batch_body batch ++ 0 ∷ [])

-- A part of so many bytes fits there, after the head and aside of the live part.
pub record IsAside (place : Place) (to n : ℕ) : Type 0 where
  pub low : first_start ≤ to
  pub apart : (to + n ≤ place.start) ⊎ (place.gate + 1 ≤ to)
