-- What each command makes of its input: a text, or how the run ends without one.
use Rattle.std.specs.Prelude.{◌≡◌, ℕ, ◌-◌, ◌==◌, Bool, true, false, ◌&&◌, nat_le, List, [], ◌∷◌, ◌++◌, length, codes, decimal, nat_lt, if◌then◌else◌, Option, Some, None, Result, Ok, Err}
use Rattle.rollout_rules.specs.Wan.{Problem, Plan, Rollout, last_stage}
use Rattle.rollout_rules.specs.declared.limits.TheConstants.{MOST_INPUT}
use Rattle.rollout_rules.specs.declared.op.OpView.{OpView}
use Rattle.plan_check.specs.FirstBroken.{first_broken}
use Rattle.plan_check.specs.declared.broken.Broken.{Broken}
use Rattle.plan_choose.specs.Choice.{Choice, chosen}
use Rattle.plan_choose.specs.declared.chosen.Chosen.{Chosen}
use Rattle.fewest_plan.specs.declared.cause.Cause.{Cause}
use Rattle.fewest_plan.specs.declared.cause.Cause.TheVariants.{Unchosen}
use Rattle.fewest_plan.specs.declared.cause.NotFound.{NotFound}
use Rattle.fewest_plan.specs.Fewest.{fewest}
use Rattle.fewest_plan.specs.Found.{Refuses}
use Rattle.plan_texts.specs.Explain.{explain_text}
use Rattle.plan_texts.specs.Loads.{loads_text}
use Rattle.scratch_plan.specs.declared.no_plan.NoPlan.{NoPlan}
use Rattle.fraction_lp.specs.declared.proof.Proof.{Proof}
use Rattle.lp_proof.specs.RateSteps.{rate_steps}
use Rattle.lp_proof.specs.Shown.{shows_least}
use Rattle.lp_proof.specs.Least.{least_of}
use Rattle.lp_proof.specs.declared.least.Least.{Least}
use Rattle.lp_proof.specs.declared.least.Least.TheVariants as least
use Rattle.problem_json.specs.Grammar.{problem_in}
use Rattle.problem_json.specs.GrammarDocuments.{DocumentRead, ScriptedRead, document_in, scripted_in}
use Rattle.problem_json.specs.GrammarLeast.{claimed_in}
use Rattle.problem_json.specs.Places.{place_of}
use Rattle.problem_json.specs.Writing.{document_text}
use Rattle.problem_json.specs.WritingLeast.{claimed_text}
use Rattle.problem_json.specs.declared.claim.Claim.{Claim}
use Rattle.problem_json.specs.declared.claim.Claimed.{Claimed}
use Rattle.problem_json.specs.declared.fault.InputFault.{InputFault}
use Rattle.problem_json.specs.declared.fault.InputFault.TheVariants.{BadProof}
use Rattle.problem_json.specs.declared.place.Part.TheVariants as part
use Rattle.rollback_plan.specs.Turning.{back_problem, back_plan}
use Rattle.case_gen.specs.Draws.{seeded}
use Rattle.problem_json.specs.WritingScripts.{scripted_text}
use Rattle.rollout_rules.specs.declared.event.Act.{Act}
use Rattle.sim_run.specs.Drafts.{drawn_script}
use Rattle.sim_run.specs.Script.{script_text}
use Rattle.sim_run.specs.declared.script_shape.ScriptShape.{ScriptShape}
use Rattle.text_commands.specs.CommandEnds.{ending_of, ending_without}
use Rattle.text_commands.specs.declared.command_end.CommandEnd.{CommandEnd}
use Rattle.text_commands.specs.declared.command_end.CommandEnd.TheVariants.{AboveLimit, Input, NotValid, OutOfMemory, Unshown}
use Rattle.text_commands.specs.declared.unshown.Unshown.TheVariants as why
use Rattle.text_commands.specs.Words.{TextAsked, a_plan, a_check, the_loads, the_way_back, a_rehearsal, a_script, the_explanation, the_least}
use Rattle.text_commands.specs.declared.words.Planner.{Planner}
use Rattle.text_commands.specs.declared.words.Planner.TheVariants.{Slack, Fewest}

infixl 10 ◌>>=◌
-- the next step at the value; an ending stays
abbrev pub ◌>>=◌ : {A B : Type 0} → Result A CommandEnd → (A → Result B CommandEnd) → Result B CommandEnd
(Ok a) >>= next = next a
(Err e) >>= next = Err e

abbrev pub or_ending : {A : Type 0} → Result A InputFault → Result A CommandEnd
or_ending (Ok a) = Ok a
or_ending (Err e) = Err (ending_of e)

-- what is chosen without the greedy rule, or the cause that there is none
abbrev pub or_unchosen : Result Choice NoPlan → Result Choice Cause
or_unchosen (Ok choice) = Ok choice
or_unchosen (Err cause) = Err (Unchosen cause)

-- what a planner chooses for a problem
abbrev pub chosen_by : Planner → Problem → Result Choice Cause
chosen_by Slack p = or_unchosen (chosen p)
chosen_by Fewest p = fewest p

-- what is chosen in code, with the problem itself, or the cause; lack of memory says nothing
abbrev pub IsChosenBy : Planner → Problem → Result Chosen NotFound → Type 0
IsChosenBy planner p (Ok c) = (c.plan.problem ≡ p) × (chosen_by planner p ≡ Ok (record { plan = c.plan.plan; rate_steps = c.rate_steps }))
IsChosenBy planner p (Err u) = (u.problem ≡ p) × Refuses u.cause (chosen_by planner p)

-- the document of a rollout, and a line feed
abbrev pub rollout_text : Rollout → List ℕ
rollout_text o = document_text o.problem o.plan ++ 10 ∷ []

-- the text of what was found, or the ending without it
abbrev pub told_by : {A : Type 0} → (A → List ℕ) → Result A CommandEnd → Result (List ℕ) CommandEnd
told_by text (Ok a) = Ok (text a)
told_by text (Err e) = Err e

-- the loads of a rollout, what it has to be done, and its document with what is said of fewer rate steps, and a line feed
abbrev pub loads_of : Rollout → List ℕ
loads_of o = loads_text o.problem o.plan

abbrev pub explanation_of : Rollout → List ℕ
explanation_of o = explain_text o.problem o.plan

abbrev pub shown_document : Rollout → Claim → List ℕ
shown_document o claim = claimed_text o.problem o.plan claim ++ 10 ∷ []

-- the document of a problem with the plan chosen for it, and a line feed
abbrev pub with_choice : Problem → Result Choice Cause → Result (List ℕ) CommandEnd
with_choice p (Ok choice) = Ok (document_text p choice.plan ++ 10 ∷ [])
with_choice p (Err cause) = Err (ending_without p cause)

unfoldable pub planned : Planner → Problem → Result (List ℕ) CommandEnd
planned planner p = with_choice p (chosen_by planner p)

-- a document as a rollout, unless its plan breaks a clause
abbrev pub unless_broken : DocumentRead → Option Broken → Result Rollout CommandEnd
unless_broken d None = Ok (record { problem = d.problem; plan = d.plan })
unless_broken d (Some b) = Err (NotValid d.problem b)

unfoldable pub checked : DocumentRead → Result Rollout CommandEnd
checked d = unless_broken d (first_broken d.problem d.plan)

-- how many steps a valid plan has, its scale, and what stands after them
abbrev pub valid_text : ℕ → ℕ → List ℕ → List ℕ
valid_text steps scale behind = codes "valid: steps " ++ decimal steps ++ codes ", scale " ++ decimal scale ++ behind ++ codes "\n"

abbrev pub valid_line : Plan → List ℕ → List ℕ
valid_line plan behind = valid_text (last_stage plan) plan.scale behind

-- what is said of fewer rate steps is shown: one less than the plan's are impossible, and the proof passes the check
unfoldable pub is_shown : Rollout → Claim → Bool
is_shown o claim = (claim.steps == rate_steps o.problem o.plan - 1) && shows_least o.problem (rate_steps o.problem o.plan) claim.proof

-- the line of a rollout, with what is said of it where that is shown
abbrev pub where_shown : Bool → Plan → Result (List ℕ) CommandEnd
where_shown shown plan = if shown then Ok (valid_line plan (codes ", least")) else Err (Input (BadProof (place_of part.LeastTop)))

abbrev pub claimed_line : Rollout → Option Claim → Result (List ℕ) CommandEnd
claimed_line o None = Ok (valid_line o.plan [])
claimed_line o (Some claim) = where_shown (is_shown o claim) o.plan

-- the line of a document whose plan is valid
unfoldable pub judged : Claimed → Result (List ℕ) CommandEnd
judged c = checked c.document >>= λ o. claimed_line o c.claim

-- the loads of the plan of a document, where that is valid
unfoldable pub loaded : DocumentRead → Result (List ℕ) CommandEnd
loaded d = checked d >>= λ o. Ok (loads_text o.problem o.plan)

-- the document of the rollout back, where the plan of this one is valid, and a line feed
unfoldable pub turned_back : DocumentRead → Result (List ℕ) CommandEnd
turned_back d = checked d >>= λ o. Ok (document_text (back_problem o.problem) (back_plan o.plan) ++ 10 ∷ [])

-- what the plan of a document has to be done, where that is valid
unfoldable pub explained : DocumentRead → Result (List ℕ) CommandEnd
explained d = checked d >>= λ o. Ok (explain_text o.problem o.plan)

-- the text of a script over the plan of its document, where that is valid, under a policy
unfoldable pub rehearsed : (OpView → ℕ) → ScriptedRead → Result (List ℕ) CommandEnd
rehearsed policy s = checked s.document >>= λ o. Ok (script_text o.problem o.plan policy s.script)

-- the script of these numbers that is drawn for a rollout under a policy
abbrev pub script_for : ScriptShape → (OpView → ℕ) → Rollout → List Act
script_for shape policy o = drawn_script o.problem o.plan policy (seeded shape.seed) shape.events

-- the document of a rollout with that script, and a line feed
abbrev pub rehearsal_text : ScriptShape → (OpView → ℕ) → Rollout → List ℕ
rehearsal_text shape policy o = scripted_text o.problem o.plan (script_for shape policy o) ++ 10 ∷ []

-- the same of a document, where its plan is valid
unfoldable pub drawn_up : ScriptShape → (OpView → ℕ) → DocumentRead → Result (List ℕ) CommandEnd
drawn_up shape policy d = checked d >>= λ o. Ok (rehearsal_text shape policy o)

-- the document of a plan with what shows that fewer than so many rate steps are impossible, and a line feed
abbrev pub shown_text : Problem → Plan → ℕ → Proof → List ℕ
shown_text p plan q proof = claimed_text p plan (record { steps = q - 1; proof = proof }) ++ 10 ∷ []

-- the same where it is shown, and else why not
abbrev pub with_proof : Problem → Plan → ℕ → Least → Result (List ℕ) CommandEnd
with_proof p plan q (least.Shown proof) = Ok (shown_text p plan q proof)
with_proof p plan q (least.Fewer other) = Err (Unshown why.Fewer)
with_proof p plan q (least.Point xs) = Err (Unshown why.Fewer)
with_proof p plan q least.Wide = Err (Unshown why.Wide)
with_proof p plan q (least.Overflow made) = Err (Unshown why.Overflow)
with_proof p plan q (least.Spent made) = Err (Unshown why.Spent)
with_proof p plan q least.Memory = Err OutOfMemory

-- of a plan that has more rate steps than were chosen nothing is shown
abbrev pub where_few : Bool → Result (List ℕ) CommandEnd → Result (List ℕ) CommandEnd
where_few true found = found
where_few false found = Err (Unshown why.Fewer)

-- what is found of the steps that were chosen
unfoldable pub proved : Problem → Plan → ℕ → Result (List ℕ) CommandEnd
proved p plan q = where_few (nat_le (rate_steps p plan) q) (with_proof p plan q (least_of p q))

abbrev pub with_least : Problem → Result Choice Cause → Result (List ℕ) CommandEnd
with_least p (Ok choice) = proved p choice.plan choice.rate_steps
with_least p (Err cause) = Err (ending_without p cause)

unfoldable pub least_planned : Problem → Result (List ℕ) CommandEnd
least_planned p = with_least p (chosen_by Slack p)

-- the answer to an input within the limit
unfoldable pub answer_in : TextAsked → List ℕ → Result (List ℕ) CommandEnd
answer_in (a_plan planner) input = or_ending (problem_in input) >>= planned planner
answer_in a_check input = or_ending (claimed_in input) >>= judged
answer_in the_loads input = or_ending (document_in input) >>= loaded
answer_in the_way_back input = or_ending (document_in input) >>= turned_back
answer_in the_explanation input = or_ending (document_in input) >>= explained
answer_in the_least input = or_ending (problem_in input) >>= least_planned
answer_in (a_rehearsal policy) input = or_ending (scripted_in input) >>= rehearsed policy
answer_in (a_script shape policy) input = or_ending (document_in input) >>= drawn_up shape policy

-- the answer to an input
unfoldable pub answer_to : TextAsked → List ℕ → Result (List ℕ) CommandEnd
answer_to asked input = if nat_lt MOST_INPUT (length input) then Err AboveLimit else answer_in asked input

-- the rollout of a document whose plan is valid, of an input within the limit and of any
unfoldable pub rollout_in : List ℕ → Result Rollout CommandEnd
rollout_in input = or_ending (document_in input) >>= checked

unfoldable pub rollout_to : List ℕ → Result Rollout CommandEnd
rollout_to input = if nat_lt MOST_INPUT (length input) then Err AboveLimit else rollout_in input
