-- Scripts: lists of events, each a list of its name and what the name asks for.
use Rattle.std.specs.Prelude.{ℕ, List, [], ◌∷◌, ◌++◌, Option, Some, None, ok_or, is_some, length, if◌then◌else◌, Result, Ok, Err, codes, bytes_eq}
use Rattle.serde_json.specs.Data.{Data, Items, no_items, item}
use Rattle.serde_json.specs.Find.{as_array, as_number, as_str}
use Rattle.rollout_rules.specs.declared.event.Act.{Act}
use Rattle.rollout_rules.specs.declared.event.Act.TheVariants.{Round, Send, Deliver, Hand, All, CrashLost, CrashKept, Stop, Start}
use Rattle.rollout_rules.specs.declared.limits.TheConstants.{MOST_ACTS}
use Rattle.problem_json.specs.GrammarResults.{◌>>=◌, held, add_each}
use Rattle.problem_json.specs.GrammarValues.{number_in, list_of}
use Rattle.problem_json.specs.Places.{place_of, place_at}
use Rattle.problem_json.specs.declared.place.Place.{Place}
use Rattle.problem_json.specs.declared.place.Part.TheVariants as part
use Rattle.problem_json.specs.declared.key.Key.TheVariants as key
use Rattle.problem_json.specs.declared.fault.InputFault.{InputFault}
use Rattle.problem_json.specs.declared.fault.InputFault.TheVariants.{WrongKind, BadEvent}

-- the largest number that a command or an answer can have
abbrev pub largest_number : ℕ
largest_number = 4294967295

-- what a name says alone
abbrev pub plain_act : List ℕ → Option Act
plain_act name =
    if bytes_eq name (codes "round") then Some Round
    else if bytes_eq name (codes "all") then Some All
    else if bytes_eq name (codes "stop") then Some Stop
    else if bytes_eq name (codes "start") then Some Start
    else None

-- what a name says of the command or the answer with a number
abbrev pub numbered_act : List ℕ → ℕ → Option Act
numbered_act name n =
    if bytes_eq name (codes "send") then Some (Send n)
    else if bytes_eq name (codes "deliver") then Some (Deliver n)
    else if bytes_eq name (codes "hand") then Some (Hand n)
    else None

-- a crash, by what becomes of the batch being written
abbrev pub crash_act : List ℕ → Option Act
crash_act batch =
    if bytes_eq batch (codes "lost") then Some CrashLost
    else if bytes_eq batch (codes "kept") then Some CrashKept
    else None

-- the parts of an event: a text is a name, and a number counts commands or answers

unfoldable pub word_in : Place → Data → Result (List ℕ) InputFault
word_in event d = ok_or (as_str d) (BadEvent event)

unfoldable pub count_in : Place → Data → Result ℕ InputFault
count_in event d = do
  _ ← held (is_some (as_number d)) (BadEvent event)
  number_in event largest_number d

unfoldable pub plain_event : Place → Data → Result Act InputFault
plain_event event d = do
  name ← word_in event d
  ok_or (plain_act name) (BadEvent event)

unfoldable pub crash_in : Place → Data → Result Act InputFault
crash_in event d = do
  batch ← word_in event d
  ok_or (crash_act batch) (BadEvent event)

-- the name is looked at before the number
unfoldable pub numbered_in : Place → List ℕ → Data → Result Act InputFault
numbered_in event name d = do
  _ ← held (is_some (numbered_act name 0)) (BadEvent event)
  n ← count_in event d
  ok_or (numbered_act name n) (BadEvent event)

-- an event of two parts
unfoldable pub event_with : Place → Data → Data → Result Act InputFault
event_with event d second = do
  name ← word_in event d
  if bytes_eq name (codes "crash") then crash_in event second else numbered_in event name second

unfoldable pub event_of_parts : Place → Items → Result Act InputFault
event_of_parts event no_items = Err (BadEvent event)
event_of_parts event (item name no_items) = plain_event event name
event_of_parts event (item name (item second no_items)) = event_with event name second
event_of_parts event (item name (item second (item more rest))) = Err (BadEvent event)

unfoldable pub event_in : Place → Data → Result Act InputFault
event_in event d = do
  parts ← ok_or (as_array d) (WrongKind event)
  event_of_parts event parts

unfoldable pub with_one_event : Data → List Act → Result (List Act) InputFault
with_one_event d script = do
  act ← event_in (place_at part.Event (length script)) d
  Ok (script ++ act ∷ [])

-- the script in the object of a document
unfoldable pub script_of : Data → Result (List Act) InputFault
script_of d = do
  events ← list_of (place_of part.Top) key.Script (place_of part.ScriptTop) MOST_ACTS d
  add_each with_one_event events []
