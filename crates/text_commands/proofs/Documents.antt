-- A document whose plan is checked, and what is made of it.
use Rattle.std.proofs.Common.{◌≡◌, ℕ, ◌≤◌, ◌++◌, ◌∷◌, [], List, true, Option, Some, None, Ok, Err, ap, ap₂, sym, ◌∙◌, subst}
use Rattle.rollout_rules.specs.Wan.{Problem, Plan, Rollout, last_stage}
use Rattle.rollout_rules.specs.Valid.{is_valid_plan}
use Rattle.rollout_rules.specs.declared.op.OpView.{OpView}
use Rattle.rollout_rules.specs.declared.event.Act.{Act}
use Rattle.plan_check.specs.FirstBroken.{first_broken}
use Rattle.plan_texts.specs.Explain.{explain_text}
use Rattle.plan_texts.specs.Loads.{loads_text}
use Rattle.plan_check.specs.Verdict.{IsVerdict}
use Rattle.plan_check.specs.declared.broken.Broken.{Broken}
use Rattle.plan_check.specs.declared.fault.PlanFault.{PlanFault}
use Rattle.plan_check.specs.declared.fault.PlanFault.TheVariants as plan_fault
use Rattle.problem_json.specs.Writing.{document_text}
use Rattle.rollback_plan.specs.Turning.{back_problem, back_plan, back}
use Rattle.problem_json.specs.GrammarDocuments.{DocumentRead, ScriptedRead}
use Rattle.problem_json.specs.WithinLimits.{IsPlanWithin}
use Rattle.problem_json.specs.WritingScripts.{scripted_text}
use Rattle.sim_run.specs.DrawnFor.{IsDrawnFor}
use Rattle.sim_run.specs.declared.draft.DrawnScript.{DrawnScript}
use Rattle.sim_run.specs.Rehearsed.{IsSafeRehearsal}
use Rattle.sim_run.specs.Script.{script_text}
use Rattle.sim_run.specs.declared.script_shape.ScriptShape.{ScriptShape}
use Rattle.text_commands.specs.Answers.{◌>>=◌, unless_broken, checked, loaded, turned_back, rehearsed, drawn_up, rehearsal_text, script_for, explained}
use Rattle.text_commands.specs.Drawn.{IsReadAs, IsReadBack, script_drawn}
use Rattle.text_commands.specs.Runs.{Gives}
use Rattle.text_commands.specs.Safety.{HoldsItsLoads, MayBeginBack, IsLoaded, IsSealed, IsSafePlan, IsTurned, IsValid, IsExplained, TellsEachNext, IsDrawn, IsDrawnUp, IsReadAgain, IsRehearsed}
use Rattle.text_commands.specs.declared.command_end.CommandEnd.{CommandEnd}
use Rattle.text_commands.specs.declared.command_end.CommandEnd.TheVariants.{NotValid}
use Rattle.text_commands.proofs.Steps.{step-gives}

-- a document's parts as they were sealed
abbrev pub as_rollout : DocumentRead → Rollout
as_rollout d = record { problem = d.problem; plan = d.plan }

pub checked-by : (d : DocumentRead) (broken : Option Broken) → first_broken d.problem d.plan ≡ broken → checked d ≡ unless_broken d broken
unfolding checked
checked-by d broken e = ap (unless_broken d) e

pub unbroken-checked : (d : DocumentRead) (o : Rollout) → first_broken d.problem d.plan ≡ None → o ≡ as_rollout d → checked d ≡ Ok o
unbroken-checked d o e is = checked-by d None e ∙ sym (ap Ok is)

pub valid-sealed : (d : DocumentRead) (o : Rollout) → is_valid_plan d.problem d.plan ≡ true → o ≡ as_rollout d → IsSealed d o
valid-sealed d o e is = record { same = is; valid = e }

pub broken-refused : (d : DocumentRead) (b : Broken) → first_broken d.problem d.plan ≡ Some b → checked d ≡ Err (NotValid d.problem b)
broken-refused d b e = checked-by d (Some b) e

-- a document, of which these are the parts, as the checker refused it
pub verdict-refused : (d : DocumentRead) (p : Problem) (plan : Plan) (fault : PlanFault) (b : Broken) → d ≡ record { problem = p; plan = plan } → fault ≡ plan_fault.Broken b → IsVerdict {A = Unit {0}} (Err fault) (first_broken p plan) → checked d ≡ Err (NotValid p b)
verdict-refused d p plan fault b parts is verdict =
    let broken : first_broken p plan ≡ Some b = subst (λ f. IsVerdict {A = Unit {0}} (Err f) (first_broken p plan)) is verdict in
    subst (λ x. checked x ≡ Err (NotValid p b)) (sym parts) (broken-refused (record { problem = p; plan = plan }) b broken)

-- ---- the loads of a valid plan

pub checked-loaded : (d : DocumentRead) (o : Rollout) (text : List ℕ) → checked d ≡ Ok o → text ≡ loads_text o.problem o.plan → loaded d ≡ Ok text
unfolding loaded
checked-loaded d o text e is = ap (λ r. r >>= λ o. Ok (loads_text o.problem o.plan)) e ∙ sym (ap Ok is)

pub refused-loaded : (d : DocumentRead) (e : CommandEnd) → Gives {A = Rollout} (Err e) (checked d) → Gives {A = List ℕ} (Err e) (loaded d)
unfolding loaded
refused-loaded d e h = step-gives e (checked d) (λ o. Ok (loads_text o.problem o.plan)) h

-- what the rollout that was sealed holds, the document's holds
pub sealed-loads : (d : DocumentRead) (o : Rollout) → IsSealed d o → HoldsItsLoads o.problem o.plan → IsLoaded d.problem d.plan
sealed-loads d o sealed holds = record { valid = sealed.valid; holds = subst (λ r. HoldsItsLoads r.problem r.plan) sealed.same holds }

-- ---- the way back of a valid plan

abbrev pub back_text : Rollout → List ℕ
back_text o = document_text (back_problem o.problem) (back_plan o.plan) ++ 10 ∷ []

pub checked-turned : (d : DocumentRead) (o : Rollout) (text : List ℕ) → checked d ≡ Ok o → text ≡ back_text o → turned_back d ≡ Ok text
unfolding turned_back
checked-turned d o text e is = ap (λ r. r >>= λ o. Ok (back_text o)) e ∙ sym (ap Ok is)

pub refused-turned : (d : DocumentRead) (e : CommandEnd) → Gives {A = Rollout} (Err e) (checked d) → Gives {A = List ℕ} (Err e) (turned_back d)
unfolding turned_back
refused-turned d e h = step-gives e (checked d) (λ o. Ok (back_text o)) h

-- what is known of the way back
abbrev pub MayStart : Rollout → Type 0
MayStart o = (s : ℕ) → s ≤ last_stage o.plan → MayBeginBack o.problem o.plan s

pub is-turned : (o there : Rollout) → IsValid o.problem o.plan → MayStart o → there ≡ back o → IsValid there.problem there.plan → IsSafePlan there.problem there.plan → IsTurned o.problem o.plan
is-turned o there valid starts turned there_valid safe = record {
  valid = valid;
  back = subst (λ (x : Rollout). IsValid x.problem x.plan) turned there_valid;
  safe = subst (λ (x : Rollout). IsSafePlan x.problem x.plan) turned safe;
  starts = starts;
}

-- of the rollout that was sealed it is known of the document's
pub sealed-turned : (d : DocumentRead) (o : Rollout) → IsSealed d o → IsTurned o.problem o.plan → IsTurned d.problem d.plan
sealed-turned d o sealed is = subst (λ (x : Rollout). IsTurned x.problem x.plan) sealed.same is

-- ---- what a valid plan has to be done

pub checked-explained : (d : DocumentRead) (o : Rollout) (text : List ℕ) → checked d ≡ Ok o → text ≡ explain_text o.problem o.plan → explained d ≡ Ok text
unfolding explained
checked-explained d o text e is = ap (λ r. r >>= λ o. Ok (explain_text o.problem o.plan)) e ∙ sym (ap Ok is)

pub refused-explained : (d : DocumentRead) (e : CommandEnd) → Gives {A = Rollout} (Err e) (checked d) → Gives {A = List ℕ} (Err e) (explained d)
unfolding explained
refused-explained d e h = step-gives e (checked d) (λ o. Ok (explain_text o.problem o.plan)) h

pub sealed-explained : (d : DocumentRead) (o : Rollout) → IsSealed d o → TellsEachNext d.problem d.plan → IsExplained d.problem d.plan
sealed-explained d o sealed tells = record { valid = sealed.valid; tells = tells }

-- ---- the text of a script over a valid plan

pub checked-rehearsed : (policy : OpView → ℕ) (s : ScriptedRead) (o : Rollout) (text : List ℕ) → checked s.document ≡ Ok o → text ≡ script_text o.problem o.plan policy s.script → rehearsed policy s ≡ Ok text
unfolding rehearsed
checked-rehearsed policy s o text e is = ap (λ r. r >>= λ o. Ok (script_text o.problem o.plan policy s.script)) e ∙ sym (ap Ok is)

pub refused-rehearsed : (policy : OpView → ℕ) (s : ScriptedRead) (e : CommandEnd) → Gives {A = Rollout} (Err e) (checked s.document) → Gives {A = List ℕ} (Err e) (rehearsed policy s)
unfolding rehearsed
refused-rehearsed policy s e h = step-gives e (checked s.document) (λ o. Ok (script_text o.problem o.plan policy s.script)) h

-- what is known of the rollout that was sealed is known of the document's
pub sealed-rehearsal : (policy : OpView → ℕ) (s : ScriptedRead) (o : Rollout) → IsSealed s.document o → IsSafeRehearsal o.problem o.plan policy s.script → IsSafeRehearsal s.document.problem s.document.plan policy s.script
sealed-rehearsal policy s o sealed safe = rw sealed.same at safe

-- ---- a script that is drawn for a valid plan

-- what was drawn is read back as the script of its rollout
read-again : (shape : ScriptShape) (policy : OpView → ℕ) (o : Rollout) (drawn : DrawnScript) → IsDrawnFor policy shape o drawn → IsReadBack drawn → IsPlanWithin o.plan → IsReadAgain shape policy o
read-again shape policy o drawn is back =
    let script = subst (λ (l : List Act). IsPlanWithin drawn.plan.plan → IsReadAs drawn.plan l) is.script.is (λ within. back within is.script.few) in
    subst (λ (r : Rollout). IsPlanWithin r.plan → IsReadAs r (script_for shape policy o)) is.rollout script

pub checked-drawn : (shape : ScriptShape) (policy : OpView → ℕ) (d : DocumentRead) (o : Rollout) (drawn : DrawnScript) → checked d ≡ Ok o → IsDrawnFor policy shape o drawn
    → drawn_up shape policy d ≡ Ok (script_drawn drawn)
unfolding drawn_up
checked-drawn shape policy d o drawn e is =
    ap (λ r. r >>= λ o. Ok (rehearsal_text shape policy o)) e
    ∙ sym (ap₂ (λ (r : Rollout) (l : List Act). Ok (scripted_text r.problem r.plan l ++ 10 ∷ [])) is.rollout is.script.is)

pub refused-drawn : (shape : ScriptShape) (policy : OpView → ℕ) (d : DocumentRead) (e : CommandEnd) → Gives {A = Rollout} (Err e) (checked d) → Gives {A = List ℕ} (Err e) (drawn_up shape policy d)
unfolding drawn_up
refused-drawn shape policy d e h = step-gives e (checked d) (λ o. Ok (rehearsal_text shape policy o)) h

pub sealed-drawn : (shape : ScriptShape) (policy : OpView → ℕ) (d : DocumentRead) (o : Rollout) (drawn : DrawnScript) → IsSealed d o → IsDrawnFor policy shape o drawn → IsDrawn shape policy o
    → IsReadBack drawn → IsPlanWithin d.plan → IsDrawnUp shape policy d
sealed-drawn shape policy d o drawn sealed is happens back within =
    let known : IsRehearsed shape policy o = record { again = read-again shape policy o drawn is back; drawn = happens } in
    let same = subst (λ (x : Rollout). IsRehearsed shape policy x) sealed.same known in
    record { valid = sealed.valid; again = same.again within; drawn = same.drawn }

pub ruleset checking = (unbroken-checked, valid-sealed)

pub ruleset loading = (checked-loaded, refused-loaded, sealed-loads)

pub ruleset turning = (checked-turned, refused-turned, sealed-turned)

pub ruleset explaining = (checked-explained, refused-explained, sealed-explained)

pub ruleset rehearsing = (checked-rehearsed, refused-rehearsed, sealed-rehearsal)

pub ruleset drawing = (checked-drawn, refused-drawn, sealed-drawn)
