-- A run is refused exactly where the command doesn't take its input.
use Rattle.std.proofs.Common.{◌≡◌, ◌⊎◌, ◌==◌, ℕ, ◌≤◌, List, length, Bool, true, false, nat_le, Option, Some, None, Result, Ok, Err, refl, ap, sym, ◌∙◌, subst, inl, inr}
use Rattle.std.proofs.lemmas.Bool.{eqb-true}
use Rattle.rollout_rules.specs.Wan.{Problem, Rollout}
use Rattle.rollout_rules.specs.declared.limits.TheConstants.{MOST_INPUT}
use Rattle.rollout_rules.specs.declared.op.OpView.{OpView}
use Rattle.plan_check.specs.FirstBroken.{first_broken}
use Rattle.plan_check.specs.declared.broken.Broken.{Broken}
use Rattle.plan_check.proofs.Firsts.{unbroken-valid, broken-invalid}
use Rattle.plan_choose.specs.Choice.{Choice}
use Rattle.plan_texts.specs.Explain.{explain_text}
use Rattle.plan_texts.specs.Loads.{loads_text}
use Rattle.fewest_plan.specs.declared.cause.Cause.{Cause}
use Rattle.fewest_plan.specs.declared.cause.Cause.TheVariants.{Unchosen, Unfound, Stuck}
use Rattle.scratch_plan.specs.declared.no_plan.NoPlan.TheVariants as cause
use Rattle.problem_json.specs.Grammar.{problem_in}
use Rattle.problem_json.specs.GrammarDocuments.{DocumentRead, ScriptedRead, document_in, scripted_in}
use Rattle.problem_json.specs.GrammarLeast.{claimed_in}
use Rattle.problem_json.specs.declared.claim.Claim.{Claim}
use Rattle.problem_json.specs.declared.claim.Claimed.{Claimed}
use Rattle.problem_json.specs.declared.fault.InputFault.{InputFault}
use Rattle.problem_json.specs.Places.{place_of}
use Rattle.problem_json.specs.declared.place.Part.TheVariants as part
use Rattle.lp_proof.specs.RateSteps.{rate_steps}
use Rattle.lp_proof.specs.Least.{least_of}
use Rattle.lp_proof.specs.declared.least.Least.{Least}
use Rattle.lp_proof.specs.declared.least.Least.TheVariants as least
use Rattle.sim_run.specs.Script.{script_text}
use Rattle.sim_run.specs.declared.script_shape.ScriptShape.{ScriptShape}
use Rattle.text_commands.specs.Answers.{◌>>=◌, or_ending, with_choice, where_few, with_least, with_proof, planned, proved, least_planned, checked, claimed_line, judged, loaded, turned_back, rehearsed, drawn_up, rehearsal_text, answer_in, chosen_by, explained}
use Rattle.text_commands.specs.CommandEnds.{ending_of, status_of}
use Rattle.text_commands.specs.Runs.{EndsWith}
use Rattle.text_commands.specs.Safety.{IsValid}
use Rattle.text_commands.specs.Taken.{IsShownDocument, IsTaken, IsValidDocument, IsValidScript, is_as_said}
use Rattle.text_commands.specs.declared.command_end.CommandEnd.{CommandEnd}
use Rattle.text_commands.specs.declared.command_end.CommandEnd.TheVariants.{OutOfMemory}
use Rattle.text_commands.proofs.Claims.{claim-shown, claim-unshown}
use Rattle.text_commands.proofs.Documents.{as_rollout, checked-by, back_text}
use Rattle.text_commands.specs.Words.{TextAsked, a_plan, a_check, the_loads, the_way_back, a_rehearsal, a_script, the_explanation, the_least}
use Rattle.text_commands.specs.declared.words.Planner.{Planner}
use Rattle.text_commands.specs.declared.words.Planner.TheVariants.{Slack}
use Rattle.text_commands.proofs.Steps.{fault-ends}

-- whether an answer refuses the input
abbrev pub is_refusal : Result (List ℕ) CommandEnd → Bool
is_refusal (Ok text) = false
is_refusal (Err e) = status_of e == 3

-- the command takes the input, or its answer refuses it; else memory ran out
abbrev pub IsJudged : Type 0 → Result (List ℕ) CommandEnd → Type 0
IsJudged taken answer = (taken × (is_refusal answer ≡ false)) ⊎ (((taken → ⊥) × (is_refusal answer ≡ true)) ⊎ (answer ≡ Err OutOfMemory))

fault-judged : (taken : Type 0) (e : InputFault) → (taken → ⊥) → IsJudged taken (Err (ending_of e))
fault-judged taken e h = elim (fault-ends e) [ inl is ↦ inr (inl (h, ap (λ x. status_of x == 3) is)) | inr is ↦ inr (inr (ap Err is)) ]

-- ---- a problem

choice-is-no-refusal : (p : Problem) (choice : Result Choice Cause) → is_refusal (with_choice p choice) ≡ false
choice-is-no-refusal p (Ok choice) = refl
choice-is-no-refusal p (Err (Unchosen (cause.OverCapacity l side load capacity))) = refl
choice-is-no-refusal p (Err (Unchosen (cause.TableFull w entries size))) = refl
choice-is-no-refusal p (Err (Unchosen (cause.NoSlack l side load capacity))) = refl
choice-is-no-refusal p (Err (Unchosen cause.Memory)) = refl
choice-is-no-refusal p (Err (Unfound why)) = refl
choice-is-no-refusal p (Err (Stuck link)) = refl

planned-is-no-refusal : (planner : Planner) (p : Problem) → is_refusal (planned planner p) ≡ false
unfolding planned
planned-is-no-refusal planner p = choice-is-no-refusal p (chosen_by planner p)

plan-judged : (planner : Planner) (input : List ℕ) (read : Result Problem InputFault) → problem_in input ≡ read → length input ≤ MOST_INPUT → IsJudged (IsTaken (a_plan planner) input) (or_ending read >>= planned planner)
plan-judged planner input (Ok p) is within = inl (record { within = within; problem = p; read = is }, planned-is-no-refusal planner p)
plan-judged planner input (Err e) is within = fault-judged (IsTaken (a_plan planner) input) e (λ t. elim_read is t.read)
  where
    elim_read : {p : Problem} → problem_in input ≡ Err e → problem_in input ≡ Ok p → ⊥
    elim_read a b = cc

-- ---- the same with what shows that fewer steps are impossible

proof-is-no-refusal : (p : Problem) (c : Choice) (answer : Least) → is_refusal (with_proof p c.plan c.rate_steps answer) ≡ false
proof-is-no-refusal p c (least.Shown proof) = refl
proof-is-no-refusal p c (least.Fewer plan) = refl
proof-is-no-refusal p c (least.Point xs) = refl
proof-is-no-refusal p c least.Wide = refl
proof-is-no-refusal p c (least.Overflow made) = refl
proof-is-no-refusal p c (least.Spent made) = refl
proof-is-no-refusal p c least.Memory = refl

few-is-no-refusal : (b : Bool) (found : Result (List ℕ) CommandEnd) → is_refusal found ≡ false → is_refusal (where_few b found) ≡ false
few-is-no-refusal true found h = h
few-is-no-refusal false found h = refl

proved-is-no-refusal : (p : Problem) (c : Choice) → is_refusal (proved p c.plan c.rate_steps) ≡ false
unfolding proved
proved-is-no-refusal p c = few-is-no-refusal (nat_le (rate_steps p c.plan) c.rate_steps) (with_proof p c.plan c.rate_steps (least_of p c.rate_steps)) (proof-is-no-refusal p c (least_of p c.rate_steps))

least-is-no-refusal : (p : Problem) (choice : Result Choice Cause) → is_refusal (with_least p choice) ≡ false
least-is-no-refusal p (Ok choice) = proved-is-no-refusal p choice
least-is-no-refusal p (Err (Unchosen (cause.OverCapacity l side load capacity))) = refl
least-is-no-refusal p (Err (Unchosen (cause.TableFull w entries size))) = refl
least-is-no-refusal p (Err (Unchosen (cause.NoSlack l side load capacity))) = refl
least-is-no-refusal p (Err (Unchosen cause.Memory)) = refl
least-is-no-refusal p (Err (Unfound why)) = refl
least-is-no-refusal p (Err (Stuck link)) = refl

least_planned-is-no-refusal : (p : Problem) → is_refusal (least_planned p) ≡ false
unfolding least_planned
least_planned-is-no-refusal p = least-is-no-refusal p (chosen_by Slack p)

least-judged : (input : List ℕ) (read : Result Problem InputFault) → problem_in input ≡ read → length input ≤ MOST_INPUT → IsJudged (IsTaken the_least input) (or_ending read >>= least_planned)
least-judged input (Ok p) is within = inl (record { within = within; problem = p; read = is }, least_planned-is-no-refusal p)
least-judged input (Err e) is within = fault-judged (IsTaken the_least input) e (λ t. elim_read is t.read)
  where
    elim_read : {p : Problem} → problem_in input ≡ Err e → problem_in input ≡ Ok p → ⊥
    elim_read a b = cc

-- ---- a document, alone or with a script

checked-judging : (taken : Type 0) (d : DocumentRead) (next : Rollout → List ℕ) (broken : Option Broken) → first_broken d.problem d.plan ≡ broken
    → (IsValid d.problem d.plan → taken) → (taken → IsValid d.problem d.plan) → IsJudged taken (checked d >>= λ o. Ok (next o))
checked-judging taken d next None e to from = rw (checked-by d None e) (inl (to (unbroken-valid d.problem d.plan e), refl))
checked-judging taken d next (Some b) e to from = rw (checked-by d (Some b) e) (inr (inl (λ t. let both : true ≡ false = sym (from t) ∙ broken-invalid d.problem d.plan b e in cc, refl)))

pub same-document : (input : List ℕ) (d : DocumentRead) → document_in input ≡ Ok d → IsValidDocument input → IsValid d.problem d.plan
same-document input d is t =
    let same : t.document ≡ d = cc (is, t.read) in
    subst (λ x. IsValid x.problem x.plan) same t.valid

-- what is said of a rollout is shown, or the document is refused
said-judged : (taken : Type 0) (o : Rollout) (claim : Option Claim) (b : Bool) → is_as_said o claim ≡ b → (is_as_said o claim ≡ true → taken) → (taken → is_as_said o claim ≡ true) → IsJudged taken (claimed_line o claim)
said-judged taken o None b is to from = inl (to refl, refl)
said-judged taken o (Some claim) true is to from = subst (λ r. IsJudged taken r) (sym (claim-shown o claim is)) (inl (to is, refl))
said-judged taken o (Some claim) false is to from =
    subst (λ r. IsJudged taken r) (sym (claim-unshown o claim (place_of part.LeastTop) is refl)) (inr (inl (λ t. let both : true ≡ false = sym (from t) ∙ is in cc, refl)))

claim-judging : (taken : Type 0) (d : DocumentRead) (claim : Option Claim) (broken : Option Broken) → first_broken d.problem d.plan ≡ broken
    → (IsValid d.problem d.plan → is_as_said (as_rollout d) claim ≡ true → taken) → (taken → IsValid d.problem d.plan) → (taken → is_as_said (as_rollout d) claim ≡ true)
    → IsJudged taken (checked d >>= λ o. claimed_line o claim)
claim-judging taken d claim None e to valid said =
    rw (checked-by d None e) (said-judged taken (as_rollout d) claim (is_as_said (as_rollout d) claim) refl (to (unbroken-valid d.problem d.plan e)) said)
claim-judging taken d claim (Some b) e to valid said = rw (checked-by d (Some b) e) (inr (inl (λ t. let both : true ≡ false = sym (valid t) ∙ broken-invalid d.problem d.plan b e in cc, refl)))

same-claimed : (input : List ℕ) (c : Claimed) → claimed_in input ≡ Ok c → (t : IsShownDocument input) → t.claimed ≡ c
same-claimed input c is t = cc (is, t.read)

check-judged : (input : List ℕ) (read : Result Claimed InputFault) → claimed_in input ≡ read → length input ≤ MOST_INPUT → IsJudged (IsTaken a_check input) (or_ending read >>= judged)
unfolding judged
check-judged input (Ok c) is within =
    claim-judging (IsTaken a_check input) c.document c.claim (first_broken c.document.problem c.document.plan) refl
    (λ valid said. record { within = within; claimed = c; read = is; valid = valid; shown = said })
    (λ t. subst (λ (x : Claimed). IsValid x.document.problem x.document.plan) (same-claimed input c is t) t.valid)
    (λ t. subst (λ (x : Claimed). is_as_said (as_rollout x.document) x.claim ≡ true) (same-claimed input c is t) t.shown)
check-judged input (Err e) is within = fault-judged (IsTaken a_check input) e (λ t. elim_read is t.read)
  where
    elim_read : {c : Claimed} → claimed_in input ≡ Err e → claimed_in input ≡ Ok c → ⊥
    elim_read a b = cc

loads-judged : (input : List ℕ) (read : Result DocumentRead InputFault) → document_in input ≡ read → length input ≤ MOST_INPUT → IsJudged (IsTaken the_loads input) (or_ending read >>= loaded)
unfolding loaded
loads-judged input (Ok d) is within =
    checked-judging (IsTaken the_loads input) d (λ o. loads_text o.problem o.plan) (first_broken d.problem d.plan) refl
    (λ valid. record { within = within; document = d; read = is; valid = valid })
    (same-document input d is)
loads-judged input (Err e) is within = fault-judged (IsTaken the_loads input) e (λ t. elim_read is t.read)
  where
    elim_read : {d : DocumentRead} → document_in input ≡ Err e → document_in input ≡ Ok d → ⊥
    elim_read a b = cc

back-judged : (input : List ℕ) (read : Result DocumentRead InputFault) → document_in input ≡ read → length input ≤ MOST_INPUT → IsJudged (IsTaken the_way_back input) (or_ending read >>= turned_back)
unfolding turned_back
back-judged input (Ok d) is within =
    checked-judging (IsTaken the_way_back input) d back_text (first_broken d.problem d.plan) refl
    (λ valid. record { within = within; document = d; read = is; valid = valid })
    (same-document input d is)
back-judged input (Err e) is within = fault-judged (IsTaken the_way_back input) e (λ t. elim_read is t.read)
  where
    elim_read : {d : DocumentRead} → document_in input ≡ Err e → document_in input ≡ Ok d → ⊥
    elim_read a b = cc

explain-judged : (input : List ℕ) (read : Result DocumentRead InputFault) → document_in input ≡ read → length input ≤ MOST_INPUT → IsJudged (IsTaken the_explanation input) (or_ending read >>= explained)
unfolding explained
explain-judged input (Ok d) is within =
    checked-judging (IsTaken the_explanation input) d (λ o. explain_text o.problem o.plan) (first_broken d.problem d.plan) refl
    (λ valid. record { within = within; document = d; read = is; valid = valid })
    (same-document input d is)
explain-judged input (Err e) is within = fault-judged (IsTaken the_explanation input) e (λ t. elim_read is t.read)
  where
    elim_read : {d : DocumentRead} → document_in input ≡ Err e → document_in input ≡ Ok d → ⊥
    elim_read a b = cc

drawn-judged : (shape : ScriptShape) (policy : OpView → ℕ) (input : List ℕ) (read : Result DocumentRead InputFault) → document_in input ≡ read → length input ≤ MOST_INPUT → IsJudged (IsTaken (a_script shape policy) input) (or_ending read >>= drawn_up shape policy)
unfolding drawn_up
drawn-judged shape policy input (Ok d) is within =
    checked-judging (IsTaken (a_script shape policy) input) d (rehearsal_text shape policy) (first_broken d.problem d.plan) refl
    (λ valid. record { within = within; document = d; read = is; valid = valid })
    (same-document input d is)
drawn-judged shape policy input (Err e) is within = fault-judged (IsTaken (a_script shape policy) input) e (λ t. elim_read is t.read)
  where
    elim_read : {d : DocumentRead} → document_in input ≡ Err e → document_in input ≡ Ok d → ⊥
    elim_read a b = cc

same-script : (input : List ℕ) (s : ScriptedRead) → scripted_in input ≡ Ok s → IsValidScript input → IsValid s.document.problem s.document.plan
same-script input s is t =
    let same : t.scripted ≡ s = cc (is, t.read) in
    subst (λ x. IsValid x.document.problem x.document.plan) same t.valid

sim-judged : (policy : OpView → ℕ) (input : List ℕ) (read : Result ScriptedRead InputFault) → scripted_in input ≡ read → length input ≤ MOST_INPUT → IsJudged (IsValidScript input) (or_ending read >>= rehearsed policy)
unfolding rehearsed
sim-judged policy input (Ok s) is within =
    checked-judging (IsValidScript input) s.document (λ o. script_text o.problem o.plan policy s.script) (first_broken s.document.problem s.document.plan) refl
    (λ valid. record { within = within; scripted = s; read = is; valid = valid })
    (same-script input s is)
sim-judged policy input (Err e) is within = fault-judged (IsValidScript input) e (λ t. elim_read is t.read)
  where
    elim_read : {s : ScriptedRead} → scripted_in input ≡ Err e → scripted_in input ≡ Ok s → ⊥
    elim_read a b = cc

pub answer-judged : (c : TextAsked) (input : List ℕ) → length input ≤ MOST_INPUT → IsJudged (IsTaken c input) (answer_in c input)
unfolding answer_in
answer-judged (a_plan planner) input within = plan-judged planner input (problem_in input) refl within
answer-judged a_check input within = check-judged input (claimed_in input) refl within
answer-judged the_loads input within = loads-judged input (document_in input) refl within
answer-judged the_way_back input within = back-judged input (document_in input) refl within
answer-judged the_explanation input within = explain-judged input (document_in input) refl within
answer-judged the_least input within = least-judged input (problem_in input) refl within
answer-judged (a_rehearsal policy) input within = sim-judged policy input (scripted_in input) refl within
answer-judged (a_script shape policy) input within = drawn-judged shape policy input (document_in input) refl within

-- ---- the status of a run

-- the status of an ending that follows from an answer is 3 exactly where the answer refuses the input
ending-refuses : (answer : Result (List ℕ) CommandEnd) (e : CommandEnd) (out now : Option (List ℕ)) → EndsWith answer e out now → (status_of e == 3) ≡ is_refusal answer
ending-refuses (Ok text) e out now (inl done) = ap (λ x. status_of x == 3) done.0
ending-refuses (Ok text) e out now (inr cut) = ap (λ x. status_of x == 3) cut.0
ending-refuses (Err d) e out now h = ap (λ x. status_of x == 3) h.0

ends-for-memory : (answer : Result (List ℕ) CommandEnd) (e : CommandEnd) (out now : Option (List ℕ)) → EndsWith answer e out now → answer ≡ Err OutOfMemory → e ≡ OutOfMemory
ends-for-memory (Ok text) e out now h is = cc
ends-for-memory (Err d) e out now h is = cc (h.0, is)

three-refuses : (n : ℕ) → (n == 3) ≡ false → n ≡ 3 → ⊥
three-refuses n other three = let e : (3 == 3) ≡ false = subst (λ m. (m == 3) ≡ false) three other in cc

pub refused-exactly : (taken : Type 0) (answer : Result (List ℕ) CommandEnd) (e : CommandEnd) (out now : Option (List ℕ)) → EndsWith answer e out now → (e ≡ OutOfMemory → ⊥) → IsJudged taken answer
    → (status_of e ≡ 3 → taken → ⊥) × ((taken → ⊥) → status_of e ≡ 3)
refused-exactly taken answer e out now ends some (inl (t, takes)) = (λ s _. three-refuses _ (ending-refuses answer e out now ends ∙ takes) s, λ n. absurd (n t))
refused-exactly taken answer e out now ends some (inr (inl (n, is))) = (λ _. n, λ _. eqb-true _ _ (ending-refuses answer e out now ends ∙ is))
refused-exactly taken answer e out now ends some (inr (inr is)) = absurd (some (ends-for-memory answer e out now ends is))
