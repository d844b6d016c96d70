-- What is enough for an answer, and that an answer is written.
use Rattle.std.proofs.Common.{◌≡◌, ◌≢◌, ℕ, ◌≤◌, List, length, Bool, true, false, nat_lt, if◌then◌else◌, Option, Some, None, Result, Ok, Err, IsOk, refl, sym, subst, ap, ◌∙◌, inl, inr}
use Rattle.rollout_rules.specs.Wan.{Problem, Plan, Rollout}
use Rattle.rollout_rules.specs.Network.{IsNetwork}
use Rattle.rollout_rules.specs.Valid.{is_valid_plan}
use Rattle.rollout_rules.specs.declared.limits.TheConstants.{MOST_INPUT}
use Rattle.rollout_rules.specs.declared.op.OpView.{OpView}
use Rattle.plan_check.specs.FirstBroken.{first_broken}
use Rattle.plan_check.specs.declared.broken.Broken.{Broken}
use Rattle.plan_check.proofs.Firsts.{broken-invalid}
use Rattle.problem_json.specs.Grammar.{problem_in}
use Rattle.problem_json.specs.GrammarDocuments.{DocumentRead, ScriptedRead}
use Rattle.problem_json.specs.declared.claim.Claim.{Claim}
use Rattle.problem_json.specs.declared.claim.Claimed.{Claimed}
use Rattle.problem_json.specs.declared.fault.InputFault.{InputFault}
use Rattle.sim_run.specs.Script.{script_text}
use Rattle.fewest_plan.specs.declared.cause.Cause.{Cause}
use Rattle.fewest_plan.specs.declared.cause.Cause.TheVariants.{Stuck}
use Rattle.plan_choose.specs.Choice.{Choice, chosen}
use Rattle.plan_texts.specs.Explain.{explain_text}
use Rattle.plan_texts.specs.Loads.{loads_text}
use Rattle.sim_run.specs.declared.script_shape.ScriptShape.{ScriptShape}
use Rattle.text_commands.specs.Answers.{◌>>=◌, with_choice, planned, checked, claimed_line, judged, loaded, turned_back, rehearsed, drawn_up, rehearsal_text, answer_to, or_ending, chosen_by, answer_in, explained}
use Rattle.text_commands.specs.CommandEnds.{status_of}
use Rattle.text_commands.specs.Program.{Streams}
use Rattle.text_commands.specs.TextPromise.{RunsAndNotes, TextPromise}
use Rattle.text_commands.specs.Runs.{EndsWith, TellsInput}
use Rattle.text_commands.specs.Safety.{IsValid}
use Rattle.text_commands.specs.Taken.{IsShownDocument, IsValidDocument, IsValidScript, is_as_said}
use Rattle.text_commands.specs.declared.command_end.CommandEnd.{CommandEnd}
use Rattle.text_commands.proofs.Commands.{plan-answers, check-answers, loads-answers, back-answers, sim-answers, explain-answers, rehearse-answers}
use Rattle.text_commands.proofs.Claims.{claim-shown}
use Rattle.text_commands.proofs.Documents.{as_rollout, checked-by, back_text}
use Rattle.text_commands.specs.Words.{TextAsked, a_plan, a_check, the_loads, the_way_back, a_rehearsal, a_script, the_explanation}
use Rattle.text_commands.specs.declared.command_end.CommandEnd.TheVariants.{AboveLimit, NoPlan}
use Rattle.text_commands.specs.declared.words.Planner.{Planner}
use Rattle.text_commands.specs.declared.words.Planner.TheVariants.{Slack}
use Rattle.text_commands.proofs.Inputs.{answered-within, short-answered, told-within}
use Rattle.text_commands.proofs.Planned.{there-by, chosen-ok, said-stuck, said-none}

choice-answers : (p : Problem) (found : Result Choice Cause) → IsOk found → IsOk (with_choice p found)
choice-answers p (Ok choice) ok = refl
choice-answers p (Err cause) ok = absurd cc

planned-answers : (planner : Planner) (p : Problem) → IsOk (chosen p) → IsOk (planned planner p)
unfolding planned
planned-answers planner p ok = choice-answers p (chosen_by planner p) (there-by planner p ok)

pub enough-answers : (planner : Planner) (input : List ℕ) (p : Problem) → length input ≤ MOST_INPUT → problem_in input ≡ Ok p → IsOk (chosen p) → IsOk (answer_to (a_plan planner) input)
enough-answers planner input p short read ok = subst (λ r. IsOk r) (sym (short-answered (a_plan planner) input short ∙ plan-answers planner input p read)) (planned-answers planner p ok)

-- where there is an answer by `slack`, there is one by each planner
choice-there : (p : Problem) (found : Result Choice Cause) → IsOk (with_choice p found) → IsOk found
choice-there p (Ok choice) ok = refl
choice-there p (Err cause) ok = absurd cc

slack-planned : (planner : Planner) (p : Problem) → IsOk (planned Slack p) → IsOk (planned planner p)
unfolding planned
slack-planned planner p ok = planned-answers planner p (chosen-ok (chosen p) (choice-there p (chosen_by Slack p) ok))

read-planned : (planner : Planner) (read : Result Problem InputFault) → IsOk (or_ending read >>= planned Slack) → IsOk (or_ending read >>= planned planner)
read-planned planner (Ok p) ok = slack-planned planner p ok
read-planned planner (Err e) ok = absurd cc

unless-long : (long : Bool) (e : CommandEnd) (one other : Result (List ℕ) CommandEnd) → (IsOk one → IsOk other) → IsOk (if long then Err e else one) → IsOk (if long then Err e else other)
unless-long true e one other h ok = ok
unless-long false e one other h ok = h ok

pub slack-answers : (planner : Planner) (input : List ℕ) → IsOk (answer_to (a_plan Slack) input) → IsOk (answer_to (a_plan planner) input)
unfolding answer_to answer_in
slack-answers planner input ok =
    unless-long (nat_lt MOST_INPUT (length input)) AboveLimit (or_ending (problem_in input) >>= planned Slack) (or_ending (problem_in input) >>= planned planner)
    (read-planned planner (problem_in input)) ok

-- where the answer is that none exists there is none
pub none-exists : (planner : Planner) (input : List ℕ) (p : Problem) (link : ℕ) → length input ≤ MOST_INPUT → problem_in input ≡ Ok p → IsNetwork p → answer_to (a_plan planner) input ≡ Err (NoPlan (record { problem = p; cause = Stuck link })) → (plan : Plan) → is_valid_plan p plan ≡ true → ⊥
unfolding planned
none-exists planner input p link short read net said plan valid =
    said-none planner p link net (said-stuck p (chosen_by planner p) link (sym (short-answered (a_plan planner) input short ∙ plan-answers planner input p read) ∙ said)) plan valid

-- ---- a valid document, alone or with a script

valid-goes-on : (d : DocumentRead) (next : Rollout → List ℕ) (broken : Option Broken) → first_broken d.problem d.plan ≡ broken → IsValid d.problem d.plan → IsOk (checked d >>= λ o. Ok (next o))
valid-goes-on d next None e valid = rw (checked-by d None e) refl
valid-goes-on d next (Some b) e valid = absurd (let both : true ≡ false = sym valid ∙ broken-invalid d.problem d.plan b e in cc)

claim-goes-on : (o : Rollout) (claim : Option Claim) → is_as_said o claim ≡ true → IsOk (claimed_line o claim)
claim-goes-on o None said = refl
claim-goes-on o (Some claim) said = subst (λ r. IsOk r) (sym (claim-shown o claim said)) refl

claims-go-on : (d : DocumentRead) (claim : Option Claim) (broken : Option Broken) → first_broken d.problem d.plan ≡ broken → IsValid d.problem d.plan → is_as_said (as_rollout d) claim ≡ true → IsOk (checked d >>= λ o. claimed_line o claim)
claims-go-on d claim None e valid said = rw (checked-by d None e) (claim-goes-on (as_rollout d) claim said)
claims-go-on d claim (Some b) e valid said = absurd (let both : true ≡ false = sym valid ∙ broken-invalid d.problem d.plan b e in cc)

valid-judged : (c : Claimed) → IsValid c.document.problem c.document.plan → is_as_said (as_rollout c.document) c.claim ≡ true → IsOk (judged c)
unfolding judged
valid-judged c valid said = claims-go-on c.document c.claim (first_broken c.document.problem c.document.plan) refl valid said

valid-loaded : (d : DocumentRead) → IsValid d.problem d.plan → IsOk (loaded d)
unfolding loaded
valid-loaded d valid = valid-goes-on d (λ o. loads_text o.problem o.plan) (first_broken d.problem d.plan) refl valid

valid-turned : (d : DocumentRead) → IsValid d.problem d.plan → IsOk (turned_back d)
unfolding turned_back
valid-turned d valid = valid-goes-on d back_text (first_broken d.problem d.plan) refl valid

valid-explained : (d : DocumentRead) → IsValid d.problem d.plan → IsOk (explained d)
unfolding explained
valid-explained d valid = valid-goes-on d (λ o. explain_text o.problem o.plan) (first_broken d.problem d.plan) refl valid

valid-rehearsed : (policy : OpView → ℕ) (s : ScriptedRead) → IsValid s.document.problem s.document.plan → IsOk (rehearsed policy s)
unfolding rehearsed
valid-rehearsed policy s valid = valid-goes-on s.document (λ o. script_text o.problem o.plan policy s.script) (first_broken s.document.problem s.document.plan) refl valid

valid-drawn : (shape : ScriptShape) (policy : OpView → ℕ) (d : DocumentRead) → IsValid d.problem d.plan → IsOk (drawn_up shape policy d)
unfolding drawn_up
valid-drawn shape policy d valid = valid-goes-on d (rehearsal_text shape policy) (first_broken d.problem d.plan) refl valid

pub shown-document-answers : (input : List ℕ) → IsShownDocument input → IsOk (answer_to a_check input)
shown-document-answers input t = subst (λ r. IsOk r) (sym (short-answered a_check input t.within ∙ check-answers input t.claimed t.read)) (valid-judged t.claimed t.valid t.shown)

pub valid-document-loads : (input : List ℕ) → IsValidDocument input → IsOk (answer_to the_loads input)
valid-document-loads input t = subst (λ r. IsOk r) (sym (short-answered the_loads input t.within ∙ loads-answers input t.document t.read)) (valid-loaded t.document t.valid)

pub valid-document-back : (input : List ℕ) → IsValidDocument input → IsOk (answer_to the_way_back input)
valid-document-back input t = subst (λ r. IsOk r) (sym (short-answered the_way_back input t.within ∙ back-answers input t.document t.read)) (valid-turned t.document t.valid)

pub valid-document-explains : (input : List ℕ) → IsValidDocument input → IsOk (answer_to the_explanation input)
valid-document-explains input t = subst (λ r. IsOk r) (sym (short-answered the_explanation input t.within ∙ explain-answers input t.document t.read)) (valid-explained t.document t.valid)

pub valid-script-answers : (policy : OpView → ℕ) (input : List ℕ) → IsValidScript input → IsOk (answer_to (a_rehearsal policy) input)
valid-script-answers policy input t = subst (λ r. IsOk r) (sym (short-answered (a_rehearsal policy) input t.within ∙ sim-answers policy input t.scripted t.read)) (valid-rehearsed policy t.scripted t.valid)

pub valid-document-rehearses : (shape : ScriptShape) (policy : OpView → ℕ) (input : List ℕ) → IsValidDocument input → IsOk (answer_to (a_script shape policy) input)
valid-document-rehearses shape policy input t =
    subst (λ r. IsOk r) (sym (short-answered (a_script shape policy) input t.within ∙ rehearse-answers shape policy input t.document t.read)) (valid-drawn shape policy t.document t.valid)

-- ---- a run with an answer

-- where the answer is a text, and the sink took it
pub ends-well : (answer : Result (List ℕ) CommandEnd) (e : CommandEnd) (out now : Option (List ℕ)) → IsOk answer → EndsWith answer e out now → (status_of e ≡ 7 → ⊥) → status_of e ≡ 0
ends-well (Ok text) e out now ok (inl done) cut = ap status_of done.0
ends-well (Ok text) e out now ok (inr part) cut = absurd (cut (ap status_of part.0))
ends-well (Err x) e out now ok h cut = absurd cc

module _ (asked : TextAsked) (before after : Streams) (status : ℕ) (input : List ℕ) where
  well : RunsAndNotes asked before after status → TellsInput before.source after.source input → IsOk (answer_to asked input) → (status ≡ 7 → ⊥) → status ≡ 0
  well r told ok cut =
      r.is_status ∙ ends-well (answer_to asked r.follows.input) r.ending before.sink.written after.sink.written
      (subst (λ i. IsOk (answer_to asked i)) (told-within before.source after.source r.follows.input input r.follows.read (answered-within asked input ok) told) ok)
      r.follows.answer (λ e. cut (r.is_status ∙ e))

  pub answer-written : TextPromise asked before after status → TellsInput before.source after.source input → IsOk (answer_to asked input) → status ≢ 6 → status ≢ 7 → status ≢ 12 → status ≡ 0
  answer-written promise told ok source sink memory = well (promise.does source memory) told ok sink
