-- What is known of the input of a command that made a text of it, and of the rollout that its text speaks of.
use Rattle.std.specs.Prelude.{◌≡◌, ℕ, ◌<◌, ◌≤◌, true, List, Ok, slice_index, IsTrue, IfSome}
use Rattle.rollout_rules.specs.History.{History, settled}
use Rattle.rollout_rules.specs.Items.{Resource, is_resource, item_count, item_at, content}
use Rattle.rollout_rules.specs.Operations.{operations, content_after}
use Rattle.rollout_rules.specs.Wan.{Problem, Plan, Rollout, last_stage}
use Rattle.rollout_rules.specs.Valid.{is_valid_plan}
use Rattle.rollout_rules.specs.Legal.{is_sound}
use Rattle.rollout_rules.specs.World.{new_world}
use Rattle.rollout_rules.specs.declared.event.Event.{Event}
use Rattle.rollout_rules.specs.declared.op.OpView.{OpView}
use Rattle.rollout_laws.specs.SafeWorlds.{EveryWorldIsSafe}
use Rattle.plan_choose.specs.Choice.{Choice, chosen}
use Rattle.plan_texts.specs.Loads.{IsBetween}
use Rattle.plan_texts.specs.Told.{IsNextTold}
use Rattle.problem_json.specs.Grammar.{problem_in}
use Rattle.lp_proof.specs.RateSteps.{rate_steps, TakesAtLeast}
use Rattle.problem_json.specs.GrammarDocuments.{DocumentRead, ScriptedRead, document_in, scripted_in}
use Rattle.problem_json.specs.GrammarLeast.{claimed_in}
use Rattle.problem_json.specs.declared.claim.Claimed.{Claimed}
use Rattle.rollback_plan.specs.Levels.{back_start}
use Rattle.rollback_plan.specs.Turning.{back_problem, back_plan}
use Rattle.case_gen.specs.Draws.{seeded}
use Rattle.problem_json.specs.WithinLimits.{IsPlanWithin}
use Rattle.sim_run.specs.Drafts.{IsDrawnScript}
use Rattle.sim_run.specs.Rehearsed.{IsSafeRehearsal}
use Rattle.sim_run.specs.declared.script_shape.ScriptShape.{ScriptShape}
use Rattle.text_commands.specs.Answers.{chosen_by, script_for}
use Rattle.text_commands.specs.Drawn.{IsReadAs}
use Rattle.text_commands.specs.Words.{TextAsked, a_plan, a_check, the_loads, the_way_back, a_rehearsal, a_script, the_explanation, the_least}
use Rattle.text_commands.specs.declared.words.Planner.{Planner}

abbrev pub IsValid : Problem → Plan → Type 0
IsValid p plan = is_valid_plan p plan ≡ true

-- the rollout is that of a document, and its plan is valid
pub record IsSealed (d : DocumentRead) (o : Rollout) : Type 0 where
  pub same : o ≡ record { problem = d.problem; plan = d.plan }
  pub valid : IsValid d.problem d.plan

-- ---- where a text was made

-- whatever happens while the plan is rolled out, every world on the way is safe
abbrev pub IsSafePlan : Problem → Plan → Type 0
IsSafePlan p plan = (es : List Event) → EveryWorldIsSafe p plan (new_world p plan) es

-- a problem for which a planner chooses a plan: it is valid, and its rollout safe, and it has no more rate steps than that of `slack`
pub record IsPlanned (planner : Planner) (p : Problem) : Type 0 where
  pub choice : Choice
  pub is_chosen : chosen_by planner p ≡ Ok choice
  pub no_more : (other : Choice) → chosen p ≡ Ok other → choice.rate_steps ≤ other.rate_steps
  pub valid : IsValid p choice.plan
  pub safe : IsSafePlan p choice.plan

-- the problem that the input is, and what is known of the plan chosen for it
pub record PlansSafely (planner : Planner) (input : List ℕ) : Type 0 where
  pub problem : Problem
  pub read : problem_in input ≡ Ok problem
  pub planned : IsPlanned planner problem

-- no valid plan has fewer rate steps than this one, at any scale, among those that leave tunnels neither wanted nor carrying at rate 0
abbrev pub HasLeast : Problem → Plan → Type 0
HasLeast p plan = TakesAtLeast p (rate_steps p plan)

-- a valid plan, of which that is so where the document says it
pub record IsClaimed (c : Claimed) : Type 0 where
  pub valid : IsValid c.document.problem c.document.plan
  pub least : IfSome c.claim (λ claim. HasLeast c.document.problem c.document.plan)

-- the document that the input is, and what is known of its plan
pub record ChecksValid (input : List ℕ) : Type 0 where
  pub claimed : Claimed
  pub read : claimed_in input ≡ Ok claimed
  pub is : IsClaimed claimed

-- a problem for which a plan is chosen that is valid and its rollout safe, and no valid plan has fewer rate steps
pub record IsLeast (p : Problem) : Type 0 where
  pub choice : Choice
  pub is_chosen : chosen p ≡ Ok choice
  pub least : HasLeast p choice.plan
  pub valid : IsValid p choice.plan
  pub safe : IsSafePlan p choice.plan

-- the problem that the input is, and what is known of the plan chosen for it
pub record PlansLeast (input : List ℕ) : Type 0 where
  pub problem : Problem
  pub read : problem_in input ≡ Ok problem
  pub is : IsLeast problem

-- in each step no link and no table may be asked for more than there is, nor for less than is taken at both ends
abbrev pub HoldsItsLoads : Problem → Plan → Type 0
HoldsItsLoads p plan = (s : ℕ) (r : Resource) → s ≤ last_stage plan → IsTrue (is_resource p r) → IsBetween p plan s r

-- a valid plan, of which the loads are told
pub record IsLoaded (p : Problem) (plan : Plan) : Type 0 where
  pub valid : IsValid p plan
  pub holds : HoldsItsLoads p plan

-- the document that the input is, and what is known of its plan
pub record LoadsSafely (input : List ℕ) : Type 0 where
  pub document : DocumentRead
  pub read : document_in input ≡ Ok document
  pub loaded : IsLoaded document.problem document.plan

-- the way back may begin where a stage of the way there is, and each item has the content of that stage then
pub record MayBeginBack (p : Problem) (plan : Plan) (s : ℕ) : Type 0 where
  pub sound : IsTrue (is_sound (back_problem p) (back_plan plan) (back_start p plan s))
  pub contents : (n : ℕ) → n < item_count p
      → content_after (back_problem p) (back_plan plan) (item_at p n) (slice_index (back_start p plan s) n) ≡ content p plan (item_at p n) s

-- a valid plan whose way back is valid, safe whatever happens while it is rolled out, and may begin at each of its stages
pub record IsTurned (p : Problem) (plan : Plan) : Type 0 where
  pub valid : IsValid p plan
  pub back : IsValid (back_problem p) (back_plan plan)
  pub safe : IsSafePlan (back_problem p) (back_plan plan)
  pub starts : (s : ℕ) → s ≤ last_stage plan → MayBeginBack p plan s

-- the document that the input is, and what is known of its way back
pub record TurnsSafely (input : List ℕ) : Type 0 where
  pub document : DocumentRead
  pub read : document_in input ≡ Ok document
  pub turned : IsTurned document.problem document.plan

-- after each history the line with an item's number and that of its next operation tells that operation
abbrev pub TellsEachNext : Problem → Plan → Type 0
TellsEachNext p plan = (h : History) (n : ℕ) → n < item_count p → settled h n < operations p plan (item_at p n) → IsNextTold p plan h n

-- a valid plan, of which the items and operations are told
pub record IsExplained (p : Problem) (plan : Plan) : Type 0 where
  pub valid : IsValid p plan
  pub tells : TellsEachNext p plan

-- the document that the input is, and what is told of its plan
pub record ExplainsTruly (input : List ℕ) : Type 0 where
  pub document : DocumentRead
  pub read : document_in input ≡ Ok document
  pub explained : IsExplained document.problem document.plan

-- the script that the input is, over the plan of its document, under a policy
pub record RehearsesSafely (policy : OpView → ℕ) (input : List ℕ) : Type 0 where
  pub scripted : ScriptedRead
  pub read : scripted_in input ≡ Ok scripted
  pub safe : IsSafeRehearsal scripted.document.problem scripted.document.plan policy scripted.script

-- the document of a rollout with the script that is drawn for it, which is read again as both
abbrev pub IsReadAgain : ScriptShape → (OpView → ℕ) → Rollout → Type 0
IsReadAgain shape policy o = IsReadAs o (script_for shape policy o)

-- each act of that script happens, the rehearsal is safe, and it ends finished where there is room
abbrev pub IsDrawn : ScriptShape → (OpView → ℕ) → Rollout → Type 0
IsDrawn shape policy o = IsDrawnScript o.problem o.plan policy (seeded shape.seed) shape.events (script_for shape policy o)

-- what is known of a rollout with that script
pub record IsRehearsed (shape : ScriptShape) (policy : OpView → ℕ) (o : Rollout) : Type 0 where
  pub again : IsPlanWithin o.plan → IsReadAgain shape policy o
  pub drawn : IsDrawn shape policy o

-- a valid plan, for which a script is drawn
pub record IsDrawnUp (shape : ScriptShape) (policy : OpView → ℕ) (d : DocumentRead) : Type 0 where
  pub valid : IsValid d.problem d.plan
  pub again : IsReadAgain shape policy (record { problem = d.problem; plan = d.plan })
  pub drawn : IsDrawn shape policy (record { problem = d.problem; plan = d.plan })

-- the document that the input is, and what is known of the script drawn for it
pub record RehearsesTruly (shape : ScriptShape) (policy : OpView → ℕ) (input : List ℕ) : Type 0 where
  pub document : DocumentRead
  pub read : document_in input ≡ Ok document
  pub drawn : IsDrawnUp shape policy document

abbrev pub DoesSafely : TextAsked → List ℕ → Type 0
DoesSafely (a_plan planner) input = PlansSafely planner input
DoesSafely a_check input = ChecksValid input
DoesSafely the_loads input = LoadsSafely input
DoesSafely the_way_back input = TurnsSafely input
DoesSafely the_explanation input = ExplainsTruly input
DoesSafely the_least input = PlansLeast input
DoesSafely (a_rehearsal policy) input = RehearsesSafely policy input
DoesSafely (a_script shape policy) input = RehearsesTruly shape policy input
