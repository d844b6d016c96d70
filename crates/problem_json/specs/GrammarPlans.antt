-- Plans: a scale, and stages of marks and rates. Whether they fit a problem is not asked here.
use Rattle.std.specs.Prelude.{ℕ, Bool, List, [], ◌∷◌, ◌++◌, length, ok_or, Result, Ok}
use Rattle.serde_json.specs.Data.{Data}
use Rattle.serde_json.specs.Find.{as_bool}
use Rattle.rollout_rules.specs.Wan.{Plan, Stage}
use Rattle.rollout_rules.specs.declared.limits.TheConstants.{MOST_TUNNELS, LARGEST_SCALE, MOST_STAGES, LARGEST_PLAN_RATE}
use Rattle.problem_json.specs.GrammarResults.{◌>>=◌, add_each}
use Rattle.problem_json.specs.GrammarValues.{list_of, number_in, number_of}
use Rattle.problem_json.specs.Places.{place_of, place_at, place_in}
use Rattle.problem_json.specs.declared.place.Part.TheVariants as part
use Rattle.problem_json.specs.declared.key.Key.TheVariants as key
use Rattle.problem_json.specs.declared.fault.InputFault.{InputFault}
use Rattle.problem_json.specs.declared.fault.InputFault.TheVariants.{WrongKind}

-- the marks of stage s: whether each tunnel is installed

unfoldable pub with_one_mark : ℕ → Data → List Bool → Result (List Bool) InputFault
with_one_mark s d marks = do
  mark ← ok_or (as_bool d) (WrongKind (place_in part.Mark s (length marks)))
  Ok (marks ++ mark ∷ [])

unfoldable pub marks_of : ℕ → Data → Result (List Bool) InputFault
marks_of s d = do
  marks ← list_of (place_at part.Stage s) key.Installed (place_at part.Installed s) MOST_TUNNELS d
  add_each (with_one_mark s) marks []

-- its rates

unfoldable pub with_one_rate : ℕ → Data → List ℕ → Result (List ℕ) InputFault
with_one_rate s d rates = do
  rate ← number_in (place_in part.Rate s (length rates)) LARGEST_PLAN_RATE d
  Ok (rates ++ rate ∷ [])

unfoldable pub rates_of : ℕ → Data → Result (List ℕ) InputFault
rates_of s d = do
  rates ← list_of (place_at part.Stage s) key.Rates (place_at part.Rates s) MOST_TUNNELS d
  add_each (with_one_rate s) rates []

unfoldable pub stage_of : ℕ → Data → Result Stage InputFault
stage_of s d = do
  installed ← marks_of s d
  rates ← rates_of s d
  Ok (record { rates = rates; installed = installed })

unfoldable pub with_one_stage : Data → Plan → Result Plan InputFault
with_one_stage d plan = do
  stage ← stage_of (length plan.stages) d
  Ok (record plan { stages = plan.stages ++ stage ∷ [] })

unfoldable pub plan_of : Data → Result Plan InputFault
plan_of d = do
  scale ← number_of (place_of part.PlanTop) key.Scale (place_of part.Scale) LARGEST_SCALE d
  stages ← list_of (place_of part.PlanTop) key.Stages (place_of part.Stages) MOST_STAGES d
  add_each with_one_stage stages (record { scale = scale; stages = [] })
