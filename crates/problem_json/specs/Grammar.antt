-- Which bytes are a problem, and which problem they are; of other bytes, what the first fault is.
use Rattle.std.specs.Prelude.{ℕ, List, Option, None, Some, ok_or, ◌==◌, if◌then◌else◌, Result, Ok, Err}
use Rattle.std.specs.Str.{is_utf8}
use Rattle.serde_json.specs.Data.{Data}
use Rattle.serde_json.specs.Find.{get}
use Rattle.serde_json.specs.Read.{read}
use Rattle.rollout_rules.specs.Wan.{Problem}
use Rattle.rollout_rules.specs.declared.limits.TheConstants.{MOST_SWITCHES, MOST_LINKS, MOST_FLOWS}
use Rattle.rollout_rules.specs.Building.{no_problem, no_wide_problem}
use Rattle.problem_json.specs.GrammarResults.{◌>>=◌, add_each}
use Rattle.problem_json.specs.GrammarValues.{list_of, whole_in}
use Rattle.problem_json.specs.GrammarNetwork.{with_one_switch, with_one_link, with_one_flow}
use Rattle.problem_json.specs.Places.{place_of}
use Rattle.problem_json.specs.Keys.{key_text}
use Rattle.problem_json.specs.declared.place.Place.{Place}
use Rattle.problem_json.specs.declared.place.Part.TheVariants as part
use Rattle.problem_json.specs.declared.key.Key.{Key}
use Rattle.problem_json.specs.declared.key.Key.TheVariants as key
use Rattle.problem_json.specs.declared.fault.InputFault.{InputFault}
use Rattle.problem_json.specs.declared.fault.InputFault.TheVariants.{NotJson, BadFormat}

-- the problem without switches, links and flows in a format
unfoldable pub empty_in : ℕ → Result Problem InputFault
empty_in format = if format == 1 then Ok no_problem else (if format == 2 then Ok no_wide_problem else Err (BadFormat (place_of part.Format) format))

-- the same in the format that an object names; without one it is format 1
unfoldable pub empty_of_format : Option Data → Result Problem InputFault
empty_of_format None = Ok no_problem
empty_of_format (Some d) = whole_in (place_of part.Format) d >>= empty_in

unfoldable pub empty_of : Data → Result Problem InputFault
empty_of d = empty_of_format (get (key_text key.Format) d)

-- the elements of a list at a key, each added to what stands
unfoldable pub with_list : Place → Key → Place → ℕ → (Data → Problem → Result Problem InputFault) → Data → Problem → Result Problem InputFault
with_list object asked place most with_one d p = do
  elements ← list_of object asked place most d
  add_each with_one elements p

-- an object, at its place, of a format, switches, links between them, and flows over these
unfoldable pub problem_of : Place → Data → Result Problem InputFault
problem_of object d = do
  empty ← empty_of d
  switched ← with_list object key.Switches (place_of part.Switches) MOST_SWITCHES with_one_switch d empty
  linked ← with_list object key.Links (place_of part.Links) MOST_LINKS with_one_link d switched
  with_list object key.Flows (place_of part.Flows) MOST_FLOWS with_one_flow d linked

-- the data of a UTF-8 text (RFC 8259)
unfoldable pub data_in : List ℕ → Result Data InputFault
data_in bytes = if is_utf8 bytes then ok_or (read bytes) NotJson else Err NotJson

unfoldable pub problem_in : List ℕ → Result Problem InputFault
problem_in bytes = data_in bytes >>= problem_of (place_of part.Top)
