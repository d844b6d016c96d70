-- What a read of a guest whose commands may name a term, and the serving of what came, come to.
use Rattle.std.specs.Prelude.{◌≡◌, ℕ, ◌-◌, ◌<◌, ◌≤◌, ◌++◌, List, length, false, not, nat_lt, Option, Some, None, ◌==◌, ◌||◌, ◌&&◌, Bool, [], ◌∷◌, if◌then◌else◌}
use Rattle.std.specs.List.{flat_map}
use Rattle.rollout_rules.specs.Agent.{is_next_command}
use Rattle.wan_edge.specs.Frames.{IsCut, Splits}
use Rattle.wan_edge.specs.Streams.{Appends, AppendsPart, IsAtEnd, SourceTrace, Takes}
use Rattle.wan_edge.specs.Switches.{pair_asked}
use Rattle.switch_agent.specs.Items.{seen}
use Rattle.switch_agent.specs.ReadStates.{ReadSoFar}
use Rattle.switch_agent.specs.declared.serve_fault.ServeFault.{ServeFault}
use Rattle.switch_agent.specs.declared.serve_fault.ServeFault.TheVariants.{Frame, Long, Memory, Read, Write}
use Rattle.switch_agent.specs.declared.serve_fault.Served.{Served}
use Rattle.fenced_agent.specs.Agents.{FencedHoldings, FencedItems, after_all_termed, after_termed, answers_to_termed, fenced_holding}
use Rattle.fenced_agent.specs.Frames.{IsTermedCommand, TermedCommand, floored_bytes, term_of, termed_bytes}
use Rattle.fenced_wire.specs.Reading.{IsTermedFault}
use Rattle.agent_talks.specs.declared.heard.Heard.{Heard}
use Rattle.agent_talks.specs.declared.reply.Reply.{Reply}
use Rattle.agent_talks.specs.declared.reply.Reply.TheVariants.{Floored, Plain}

-- the bytes of an answer
abbrev pub reply_bytes : Reply → List ℕ
reply_bytes (Plain bytes) = bytes
reply_bytes (Floored bytes) = bytes

-- whether a command changes what is held of its item: its term isn't below the floor, and it is the next
abbrev pub takes_termed : FencedHoldings → TermedCommand → Bool
takes_termed held c = not (nat_lt (term_of c.term) held.floor) && is_next_command (held.held c.command.1.item).held (pair_asked c.command)

-- the first bytes of a command with a term or without one, which may be none, and not all of them
abbrev pub IsCutTermed : List ℕ → Type 0
IsCutTermed = IsCut termed_bytes IsTermedCommand

-- the bytes of the answers to these commands, by the floor and what is held before them
abbrev pub answered : FencedHoldings → List TermedCommand → List ℕ
answered held commands = flat_map floored_bytes (answers_to_termed held commands)

-- a whole command stands at the front, of an item that wasn't seen before, and its term isn't below the floor
pub record WantsRoom (items : FencedItems) (rest : List ℕ) : Type 0 where
  pub command : TermedCommand
  pub fits : IsTermedCommand command
  pub unseen : seen items.items command.command.1.item ≡ false
  pub above : items.floor ≤ term_of command.term
  pub behind : List ℕ
  pub parts : rest ≡ termed_bytes command ++ behind

-- What stands after the commands that were carried out, and what was written of the bytes of their answers: without a fault of its own
-- the rest goes on as it may.
abbrev pub Ends : Option ServeFault → (List ℕ → Type 0) → FencedItems → List ℕ → Option (List ℕ) → List ℕ → Option (List ℕ) → Type 0
Ends None GoesOn items rest before answers now = GoesOn rest × Appends before answers now
Ends (Some (Frame fault)) GoesOn items rest before answers now = IsTermedFault rest fault × Appends before answers now
Ends (Some Read) GoesOn items rest before answers now = GoesOn rest × Appends before answers now
Ends (Some Write) GoesOn items rest before answers now = AppendsPart before answers now
Ends (Some Long) GoesOn items rest before answers now = GoesOn rest × Appends before answers now
Ends (Some Memory) GoesOn items rest before answers now = WantsRoom items rest × Appends before answers now

-- whether one of the commands is for the item and not below the floor at which it came
abbrev pub asked : FencedHoldings → List TermedCommand → ℕ → Bool
asked held [] item = false
asked held (c ∷ cs) item = (not (nat_lt (term_of c.term) held.floor) && (item == c.command.1.item)) || asked (after_termed held c) cs item

-- From the front of these bytes commands were carried out in order by the rule of terms, as many as counted, and answered. The items of those that weren't
-- below the floor are seen now, and those that were seen before.
pub record CarriesOut (before now : FencedItems) (bytes : List ℕ) (served : Served) (GoesOn : List ℕ → Type 0) (written written_now : Option (List ℕ)) : Type 0 where
  pub commands : List TermedCommand
  pub rest : List ℕ
  pub whole : Splits termed_bytes IsTermedCommand bytes commands rest
  pub counted : served.commands ≡ length commands
  pub holds : fenced_holding now ≡ after_all_termed (fenced_holding before) commands
  pub items_seen : (item : ℕ) → seen now.items item ≡ (asked (fenced_holding before) commands item || seen before.items item)
  pub ends : Ends served.fault GoesOn now rest written (answered (fenced_holding before) commands) written_now

-- what is left of a guest after a read without a fault: it is read further where more may be read of it
abbrev pub heard_on : ℕ → List ℕ → ℕ → Bool → Heard
heard_on commands kept room full =
    if full
    then record { served = record { commands = commands; fault = Some Long }; talk = None }
    else record { served = record { commands = commands; fault = None }; talk = Some (record { kept = kept; room = room }) }

-- what comes of a read by which so many commands were carried out, by the fault that ended them: this is kept of the guest, and so many bytes may still be read
abbrev pub heard_by : ℕ → Option ServeFault → List ℕ → ℕ → Heard
heard_by commands (Some fault) kept room = record { served = record { commands = commands; fault = Some fault }; talk = None }
heard_by commands None kept room = heard_on commands kept room (room == 0)

-- Whether a guest is read further after a read, by its fault: it said something and may say more, and what stands after its commands is kept; it came to
-- its end; or it isn't for the fault's sake.
abbrev pub GoesFurther : Option ServeFault → Option ReadSoFar → List ℕ → List ℕ → ℕ → Option (List ℕ) → Type 0
GoesFurther None (Some talk) bytes rest room left = (0 < length bytes) × (0 < room) × (talk ≡ record { kept = rest; room = room })
GoesFurther None None bytes rest room left = (length bytes ≡ 0) × IsAtEnd left
GoesFurther (Some (Frame fault)) talk bytes rest room left = talk ≡ None
GoesFurther (Some Read) talk bytes rest room left = (talk ≡ None) × (length bytes ≡ 0)
GoesFurther (Some Write) talk bytes rest room left = talk ≡ None
GoesFurther (Some Long) talk bytes rest room left = (talk ≡ None) × (room ≡ 0)
GoesFurther (Some Memory) talk bytes rest room left = talk ≡ None

-- What these bytes of a guest brought about, after what was kept of it: the whole commands at their front were carried out in order and answered, each by
-- what was held before it, and what stands after them is no whole command. Each command ends in one of these bytes.
pub record HearsBytes (before now : FencedItems) (talk : ReadSoFar) (bytes : List ℕ) (heard : Heard) (left : Option (List ℕ)) (written written_now : Option (List ℕ)) : Type 0 where
  pub carried : CarriesOut before now (talk.kept ++ bytes) heard.served IsCutTermed written written_now
  pub few : heard.served.commands ≤ length bytes
  pub further : GoesFurther heard.served.fault heard.talk bytes carried.rest (talk.room - length bytes) left

-- One read of a guest: these bytes came, no more than may be read of it, and this is what they brought about.
pub record HearsGuest (before now : FencedItems) (talk : ReadSoFar) (source source_now : SourceTrace) (heard : Heard) (written written_now : Option (List ℕ)) : Type 0 where
  pub bytes : List ℕ
  pub takes : Takes bytes source source_now
  pub within : length bytes ≤ talk.room
  pub hears : HearsBytes before now talk bytes heard source_now.left written written_now
