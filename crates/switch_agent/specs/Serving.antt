-- What a read of a guest, and the serving of what came, come to.
use Rattle.std.specs.Prelude.{◌≡◌, ℕ, ◌-◌, ◌<◌, ◌≤◌, ◌++◌, List, length, false, Option, Some, None, ◌==◌, ◌||◌, Bool, [], ◌∷◌, if◌then◌else◌}
use Rattle.std.specs.List.{flat_map}
use Rattle.wan_edge.specs.Frames.{CommandFrame, IsCommand, IsCutCommand, Splits, answer_bytes, command_bytes}
use Rattle.wan_edge.specs.Streams.{Appends, AppendsPart, IsAtEnd, SourceTrace, Takes}
use Rattle.wan_edge.specs.Switches.{Holdings, after_commands, answers_to}
use Rattle.wire_frames.specs.Reading.{IsCommandFault}
use Rattle.switch_agent.specs.Items.{Items, holding, seen}
use Rattle.switch_agent.specs.ReadStates.{ReadSoFar}
use Rattle.switch_agent.specs.declared.guest_read.GuestRead.{GuestRead}
use Rattle.switch_agent.specs.declared.serve_fault.ServeFault.{ServeFault}
use Rattle.switch_agent.specs.declared.serve_fault.ServeFault.TheVariants.{Frame, Long, Memory, Read, Write}
use Rattle.switch_agent.specs.declared.serve_fault.Served.{Served}

-- the bytes of the answers to these commands, by what is held before them
abbrev pub answered : Holdings → List CommandFrame → List ℕ
answered held commands = flat_map answer_bytes (answers_to held commands)

-- a whole command stands at the front, of an item that wasn't seen before
pub record WantsRoom (items : Items) (rest : List ℕ) : Type 0 where
  pub command : CommandFrame
  pub fits : IsCommand command
  pub unseen : seen items command.1.item ≡ false
  pub behind : List ℕ
  pub parts : rest ≡ command_bytes command ++ behind

-- What stands after the commands that were carried out, and what was written of the bytes of their answers: without a fault of its own
-- the rest goes on as it may.
abbrev pub Ends : Option ServeFault → (List ℕ → Type 0) → Items → List ℕ → Option (List ℕ) → List ℕ → Option (List ℕ) → Type 0
Ends None GoesOn items rest before answers now = GoesOn rest × Appends before answers now
Ends (Some (Frame fault)) GoesOn items rest before answers now = IsCommandFault rest fault × Appends before answers now
Ends (Some Read) GoesOn items rest before answers now = GoesOn rest × Appends before answers now
Ends (Some Write) GoesOn items rest before answers now = AppendsPart before answers now
Ends (Some Long) GoesOn items rest before answers now = GoesOn rest × Appends before answers now
Ends (Some Memory) GoesOn items rest before answers now = WantsRoom items rest × Appends before answers now

-- whether one of the commands is for the item
abbrev pub asked : List CommandFrame → ℕ → Bool
asked [] item = false
asked (c ∷ cs) item = item == c.1.item || asked cs item

-- From the front of these bytes commands were carried out in order, as many as counted, and answered. The items of these commands are seen now, and those
-- that were seen before.
pub record CarriesOut (before now : Items) (bytes : List ℕ) (served : Served) (GoesOn : List ℕ → Type 0) (written written_now : Option (List ℕ)) : Type 0 where
  pub commands : List CommandFrame
  pub rest : List ℕ
  pub whole : Splits command_bytes IsCommand bytes commands rest
  pub counted : served.commands ≡ length commands
  pub holds : holding now ≡ after_commands (holding before) commands
  pub items_seen : (item : ℕ) → seen now item ≡ (asked commands item || seen before item)
  pub ends : Ends served.fault GoesOn now rest written (answered (holding before) commands) written_now

-- a fault of the guest's bytes, of writing or of memory
abbrev pub IsOwnFault : ServeFault → Type 0
IsOwnFault (Frame fault) = Unit {0}
IsOwnFault Read = ⊥
IsOwnFault Write = Unit {0}
IsOwnFault Long = ⊥
IsOwnFault Memory = Unit {0}

-- what is left of a guest after a read without a fault: it is read further where more may be read of it
abbrev pub heard_on : ℕ → List ℕ → ℕ → Bool → GuestRead
heard_on commands kept room full =
    if full
    then record { served = record { commands = commands; fault = Some Long }; talk = None }
    else record { served = record { commands = commands; fault = None }; talk = Some (record { kept = kept; room = room }) }

-- what comes of a read by which so many commands were carried out, by the fault that ended them: this is kept of the guest, and so many bytes may still be read
abbrev pub heard_by : ℕ → Option ServeFault → List ℕ → ℕ → GuestRead
heard_by commands (Some fault) kept room = record { served = record { commands = commands; fault = Some fault }; talk = None }
heard_by commands None kept room = heard_on commands kept room (room == 0)

-- Whether a guest is read further after a read, by its fault: it said something and may say more, and what stands after its commands is kept; it came to
-- its end; or it isn't for the fault's sake.
abbrev pub GoesFurther : Option ServeFault → Option ReadSoFar → List ℕ → List ℕ → ℕ → Option (List ℕ) → Type 0
GoesFurther None (Some talk) bytes rest room left = (0 < length bytes) × (0 < room) × (talk ≡ record { kept = rest; room = room })
GoesFurther None None bytes rest room left = (length bytes ≡ 0) × IsAtEnd left
GoesFurther (Some (Frame fault)) talk bytes rest room left = talk ≡ None
GoesFurther (Some Read) talk bytes rest room left = (talk ≡ None) × (length bytes ≡ 0)
GoesFurther (Some Write) talk bytes rest room left = talk ≡ None
GoesFurther (Some Long) talk bytes rest room left = (talk ≡ None) × (room ≡ 0)
GoesFurther (Some Memory) talk bytes rest room left = talk ≡ None

-- What these bytes of a guest brought about, after what was kept of it: the whole commands at their front were carried out in order and answered, each by
-- what was held before it, and what stands after them is no whole command. Each command ends in one of these bytes.
pub record HearsBytes (before now : Items) (talk : ReadSoFar) (bytes : List ℕ) (heard : GuestRead) (left : Option (List ℕ)) (written written_now : Option (List ℕ)) : Type 0 where
  pub carried : CarriesOut before now (talk.kept ++ bytes) heard.served IsCutCommand written written_now
  pub few : heard.served.commands ≤ length bytes
  pub further : GoesFurther heard.served.fault heard.talk bytes carried.rest (talk.room - length bytes) left

-- One read of a guest: these bytes came, no more than may be read of it, and this is what they brought about.
pub record HearsGuest (before now : Items) (talk : ReadSoFar) (source source_now : SourceTrace) (heard : GuestRead) (written written_now : Option (List ℕ)) : Type 0 where
  pub bytes : List ℕ
  pub takes : Takes bytes source source_now
  pub within : length bytes ≤ talk.room
  pub hears : HearsBytes before now talk bytes heard source_now.left written written_now
