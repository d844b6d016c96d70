-- Which bytes are a document, a problem with a plan, and which are one with a script.
use Rattle.std.specs.Prelude.{ℕ, List, Result, Ok}
use Rattle.serde_json.specs.Data.{Data}
use Rattle.rollout_rules.specs.Wan.{Problem, Plan}
use Rattle.rollout_rules.specs.declared.event.Act.{Act}
use Rattle.problem_json.specs.GrammarResults.{◌>>=◌}
use Rattle.problem_json.specs.GrammarValues.{member_in}
use Rattle.problem_json.specs.Grammar.{data_in, problem_of}
use Rattle.problem_json.specs.GrammarPlans.{plan_of}
use Rattle.problem_json.specs.GrammarScripts.{script_of}
use Rattle.problem_json.specs.Places.{place_of}
use Rattle.problem_json.specs.declared.place.Part.TheVariants as part
use Rattle.problem_json.specs.declared.key.Key.TheVariants as key
use Rattle.problem_json.specs.declared.fault.InputFault.{InputFault}

pub record DocumentRead : Type 0 where
  pub problem : Problem
  pub plan : Plan

pub record ScriptedRead : Type 0 where
  pub document : DocumentRead
  pub script : List Act

-- the parts of a document, each at its key

unfoldable pub problem_part : Data → Result Problem InputFault
problem_part d = member_in (place_of part.Top) key.Problem d >>= problem_of (place_of part.Problem)

unfoldable pub plan_part : Data → Result Plan InputFault
plan_part d = member_in (place_of part.Top) key.Plan d >>= plan_of

unfoldable pub document_of : Data → Result DocumentRead InputFault
document_of d = do
  problem ← problem_part d
  plan ← plan_part d
  Ok (record { problem = problem; plan = plan })

-- a script stands in the same object as its document
unfoldable pub scripted_of : Data → Result ScriptedRead InputFault
scripted_of d = do
  document ← document_of d
  script ← script_of d
  Ok (record { document = document; script = script })

unfoldable pub plan_in : List ℕ → Result Plan InputFault
plan_in bytes = data_in bytes >>= plan_of

unfoldable pub document_in : List ℕ → Result DocumentRead InputFault
document_in bytes = data_in bytes >>= document_of

unfoldable pub scripted_in : List ℕ → Result ScriptedRead InputFault
scripted_in bytes = data_in bytes >>= scripted_of
