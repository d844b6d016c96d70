-- The answer of each command, from what it read, and what is known of the input after it.
use Rattle.std.proofs.Common.{◌≡◌, ℕ, List, Result, Ok, Err, IfOk}
use Rattle.rollout_rules.specs.Wan.{Problem, Rollout}
use Rattle.rollout_rules.specs.declared.op.OpView.{OpView}
use Rattle.problem_json.specs.Grammar.{problem_in}
use Rattle.problem_json.specs.GrammarDocuments.{DocumentRead, ScriptedRead, document_in, scripted_in}
use Rattle.problem_json.specs.GrammarLeast.{claimed_in}
use Rattle.problem_json.specs.declared.claim.Claimed.{Claimed}
use Rattle.problem_json.specs.GrammarResults as grammar
use Rattle.problem_json.specs.declared.fault.InputFault.{InputFault}
use Rattle.problem_json.specs.WithinLimits.{IsPlanWithin}
use Rattle.sim_run.specs.Rehearsed.{IsSafeRehearsal}
use Rattle.sim_run.specs.declared.script_shape.ScriptShape.{ScriptShape}
use Rattle.text_commands.specs.Answers.{planned, least_planned, judged, loaded, turned_back, rehearsed, drawn_up, checked, answer_in, explained, rollout_in}
use Rattle.text_commands.specs.CommandEnds.{ending_of}
use Rattle.text_commands.specs.Runs.{Gives}
use Rattle.sim_run.specs.declared.draft.DrawnScript.{DrawnScript}
use Rattle.text_commands.specs.Drawn.{IsReadBack}
use Rattle.text_commands.specs.Safety.{IsPlanned, PlansSafely, ChecksValid, LoadsSafely, TurnsSafely, RehearsesSafely, RehearsesTruly, IsDrawnUp, IsLoaded, IsTurned, IsClaimed, ExplainsTruly, IsExplained, IsLeast, PlansLeast}
use Rattle.text_commands.specs.declared.command_end.CommandEnd.{CommandEnd}
use Rattle.text_commands.specs.Words.{a_plan, a_check, the_loads, the_way_back, a_rehearsal, a_script, the_explanation, the_least}
use Rattle.text_commands.specs.declared.words.Planner.{Planner}
use Rattle.text_commands.proofs.Steps.{fault-gives, next-is}

pub plan-refuses : (planner : Planner) (input : List ℕ) (e : InputFault) → grammar.Refuses e (problem_in input) → Gives {A = List ℕ} (Err (ending_of e)) (answer_in (a_plan planner) input)
unfolding answer_in
plan-refuses planner input e h = fault-gives e (problem_in input) (planned planner) h

pub plan-answers : (planner : Planner) (input : List ℕ) (p : Problem) → problem_in input ≡ Ok p → answer_in (a_plan planner) input ≡ planned planner p
unfolding answer_in
plan-answers planner input p h = next-is (problem_in input) p (planned planner) h

pub check-refuses : (input : List ℕ) (e : InputFault) → grammar.Refuses e (claimed_in input) → Gives {A = List ℕ} (Err (ending_of e)) (answer_in a_check input)
unfolding answer_in
check-refuses input e h = fault-gives e (claimed_in input) judged h

pub check-answers : (input : List ℕ) (c : Claimed) → claimed_in input ≡ Ok c → answer_in a_check input ≡ judged c
unfolding answer_in
check-answers input c h = next-is (claimed_in input) c judged h

pub least-refuses : (input : List ℕ) (e : InputFault) → grammar.Refuses e (problem_in input) → Gives {A = List ℕ} (Err (ending_of e)) (answer_in the_least input)
unfolding answer_in
least-refuses input e h = fault-gives e (problem_in input) least_planned h

pub least-answers : (input : List ℕ) (p : Problem) → problem_in input ≡ Ok p → answer_in the_least input ≡ least_planned p
unfolding answer_in
least-answers input p h = next-is (problem_in input) p least_planned h

pub loads-refuses : (input : List ℕ) (e : InputFault) → grammar.Refuses e (document_in input) → Gives {A = List ℕ} (Err (ending_of e)) (answer_in the_loads input)
unfolding answer_in
loads-refuses input e h = fault-gives e (document_in input) loaded h

pub loads-answers : (input : List ℕ) (d : DocumentRead) → document_in input ≡ Ok d → answer_in the_loads input ≡ loaded d
unfolding answer_in
loads-answers input d h = next-is (document_in input) d loaded h

pub back-refuses : (input : List ℕ) (e : InputFault) → grammar.Refuses e (document_in input) → Gives {A = List ℕ} (Err (ending_of e)) (answer_in the_way_back input)
unfolding answer_in
back-refuses input e h = fault-gives e (document_in input) turned_back h

pub back-answers : (input : List ℕ) (d : DocumentRead) → document_in input ≡ Ok d → answer_in the_way_back input ≡ turned_back d
unfolding answer_in
back-answers input d h = next-is (document_in input) d turned_back h

pub explain-refuses : (input : List ℕ) (e : InputFault) → grammar.Refuses e (document_in input) → Gives {A = List ℕ} (Err (ending_of e)) (answer_in the_explanation input)
unfolding answer_in
explain-refuses input e h = fault-gives e (document_in input) explained h

pub explain-answers : (input : List ℕ) (d : DocumentRead) → document_in input ≡ Ok d → answer_in the_explanation input ≡ explained d
unfolding answer_in
explain-answers input d h = next-is (document_in input) d explained h

pub sim-refuses : (policy : OpView → ℕ) (input : List ℕ) (e : InputFault) → grammar.Refuses e (scripted_in input) → Gives {A = List ℕ} (Err (ending_of e)) (answer_in (a_rehearsal policy) input)
unfolding answer_in
sim-refuses policy input e h = fault-gives e (scripted_in input) (rehearsed policy) h

pub sim-answers : (policy : OpView → ℕ) (input : List ℕ) (s : ScriptedRead) → scripted_in input ≡ Ok s → answer_in (a_rehearsal policy) input ≡ rehearsed policy s
unfolding answer_in
sim-answers policy input s h = next-is (scripted_in input) s (rehearsed policy) h

pub rehearse-refuses : (shape : ScriptShape) (policy : OpView → ℕ) (input : List ℕ) (e : InputFault) → grammar.Refuses e (document_in input) → Gives {A = List ℕ} (Err (ending_of e)) (answer_in (a_script shape policy) input)
unfolding answer_in
rehearse-refuses shape policy input e h = fault-gives e (document_in input) (drawn_up shape policy) h

pub rehearse-answers : (shape : ScriptShape) (policy : OpView → ℕ) (input : List ℕ) (d : DocumentRead) → document_in input ≡ Ok d → answer_in (a_script shape policy) input ≡ drawn_up shape policy d
unfolding answer_in
rehearse-answers shape policy input d h = next-is (document_in input) d (drawn_up shape policy) h

-- ---- what is known of the input where a text was made

pub read-plans-safely : {A : Type 0} (planner : Planner) (input : List ℕ) (p : Problem) (answer : Result A CommandEnd) → problem_in input ≡ Ok p → IfOk answer (λ text. IsPlanned planner p) → IfOk answer (λ text. PlansSafely planner input)
read-plans-safely planner input p (Ok text) read planned = record { problem = p; read = read; planned = planned }
read-plans-safely planner input p (Err e) read planned = tt

pub read-checks-valid : {A : Type 0} (input : List ℕ) (c : Claimed) (answer : Result A CommandEnd) → claimed_in input ≡ Ok c → IfOk answer (λ text. IsClaimed c) → IfOk answer (λ text. ChecksValid input)
read-checks-valid input c (Ok text) read is = record { claimed = c; read = read; is = is }
read-checks-valid input c (Err e) read is = tt

pub read-plans-least : {A : Type 0} (input : List ℕ) (p : Problem) (answer : Result A CommandEnd) → problem_in input ≡ Ok p → IfOk answer (λ text. IsLeast p) → IfOk answer (λ text. PlansLeast input)
read-plans-least input p (Ok text) read is = record { problem = p; read = read; is = is }
read-plans-least input p (Err e) read is = tt

pub read-loads-safely : {A : Type 0} (input : List ℕ) (d : DocumentRead) (answer : Result A CommandEnd) → document_in input ≡ Ok d → IfOk answer (λ text. IsLoaded d.problem d.plan) → IfOk answer (λ text. LoadsSafely input)
read-loads-safely input d (Ok text) read is = record { document = d; read = read; loaded = is }
read-loads-safely input d (Err e) read is = tt

pub read-turns-safely : {A : Type 0} (input : List ℕ) (d : DocumentRead) (answer : Result A CommandEnd) → document_in input ≡ Ok d → IfOk answer (λ text. IsTurned d.problem d.plan) → IfOk answer (λ text. TurnsSafely input)
read-turns-safely input d (Ok text) read is = record { document = d; read = read; turned = is }
read-turns-safely input d (Err e) read is = tt

pub read-explains-truly : {A : Type 0} (input : List ℕ) (d : DocumentRead) (answer : Result A CommandEnd) → document_in input ≡ Ok d → IfOk answer (λ text. IsExplained d.problem d.plan) → IfOk answer (λ text. ExplainsTruly input)
read-explains-truly input d (Ok text) read is = record { document = d; read = read; explained = is }
read-explains-truly input d (Err e) read is = tt

pub read-rehearses-safely : {A : Type 0} (policy : OpView → ℕ) (input : List ℕ) (s : ScriptedRead) (answer : Result A CommandEnd) → scripted_in input ≡ Ok s
    → IfOk answer (λ text. IsSafeRehearsal s.document.problem s.document.plan policy s.script) → IfOk answer (λ text. RehearsesSafely policy input)
read-rehearses-safely policy input s (Ok text) read safe = record { scripted = s; read = read; safe = safe }
read-rehearses-safely policy input s (Err e) read safe = tt

pub read-rehearses-truly : (shape : ScriptShape) (policy : OpView → ℕ) (input : List ℕ) (d : DocumentRead) (answer : Result DrawnScript CommandEnd) → document_in input ≡ Ok d → IsPlanWithin d.plan
    → IfOk answer (λ drawn. IsReadBack drawn → IsPlanWithin d.plan → IsDrawnUp shape policy d) → IfOk answer (λ drawn. IsReadBack drawn → RehearsesTruly shape policy input)
read-rehearses-truly shape policy input d (Ok drawn) read within known = λ back. record { document = d; read = read; drawn = known back within }
read-rehearses-truly shape policy input d (Err e) read within known = tt

pub rollout-refuses : (input : List ℕ) (e : InputFault) → grammar.Refuses e (document_in input) → Gives {A = Rollout} (Err (ending_of e)) (rollout_in input)
unfolding rollout_in
rollout-refuses input e h = fault-gives e (document_in input) checked h

pub rollout-is : (input : List ℕ) (d : DocumentRead) → document_in input ≡ Ok d → rollout_in input ≡ checked d
unfolding rollout_in
rollout-is input d h = next-is (document_in input) d checked h
