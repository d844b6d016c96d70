-- No command answers with an ending that isn't one of its input.
use Rattle.std.proofs.Common.{◌≡◌, ◌⊎◌, ℕ, List, Bool, true, false, nat_le, Option, Some, None, Result, Ok, Err, refl, sym, ap, ◌∙◌, inl, inr}
use Rattle.rollout_rules.specs.Wan.{Problem, Rollout}
use Rattle.rollout_rules.specs.declared.op.OpView.{OpView}
use Rattle.plan_check.specs.FirstBroken.{first_broken}
use Rattle.plan_check.specs.declared.broken.Broken.{Broken}
use Rattle.plan_choose.specs.Choice.{Choice}
use Rattle.plan_texts.specs.Explain.{explain_text}
use Rattle.plan_texts.specs.Loads.{loads_text}
use Rattle.fewest_plan.specs.declared.cause.Cause.{Cause}
use Rattle.fewest_plan.specs.declared.cause.Cause.TheVariants.{Unchosen, Unfound, Stuck}
use Rattle.scratch_plan.specs.declared.no_plan.NoPlan.TheVariants as cause
use Rattle.problem_json.specs.Grammar.{problem_in}
use Rattle.problem_json.specs.GrammarDocuments.{DocumentRead, ScriptedRead, document_in, scripted_in}
use Rattle.problem_json.specs.GrammarLeast.{claimed_in}
use Rattle.problem_json.specs.declared.claim.Claim.{Claim}
use Rattle.problem_json.specs.declared.claim.Claimed.{Claimed}
use Rattle.problem_json.specs.declared.fault.InputFault.{InputFault}
use Rattle.lp_proof.specs.RateSteps.{rate_steps}
use Rattle.lp_proof.specs.Least.{least_of}
use Rattle.lp_proof.specs.declared.least.Least.{Least}
use Rattle.lp_proof.specs.declared.least.Least.TheVariants as least
use Rattle.sim_run.specs.Script.{script_text}
use Rattle.sim_run.specs.declared.script_shape.ScriptShape.{ScriptShape}
use Rattle.text_commands.specs.Answers.{◌>>=◌, or_ending, with_choice, where_few, with_least, with_proof, planned, proved, least_planned, checked, claimed_line, is_shown, judged, where_shown, loaded, turned_back, rehearsed, drawn_up, rehearsal_text, answer_in, chosen_by, explained, rollout_in}
use Rattle.text_commands.specs.CommandEnds.{ending_of}
use Rattle.text_commands.specs.Runs.{EndsWith, Follows, Gives}
use Rattle.text_commands.specs.declared.command_end.CommandEnd.{CommandEnd}
use Rattle.text_commands.specs.declared.command_end.CommandEnd.TheVariants.{Done, Usage, AboveLimit, Input, NotValid, NoPlan, Unshown, ReadFault, WriteFault, DiskFault, GuestFault, Refused, NotFinished, OutOfMemory}
use Rattle.text_commands.proofs.Documents.{as_rollout, back_text, checked-by}
use Rattle.text_commands.specs.Words.{TextAsked, a_plan, a_check, the_loads, the_way_back, a_rehearsal, a_script, the_explanation, the_least}
use Rattle.text_commands.specs.declared.words.Planner.{Planner}
use Rattle.text_commands.specs.declared.words.Planner.TheVariants.{Slack}
use Rattle.text_commands.proofs.Steps.{fault-ends}
use Rattle.text_commands.specs.declared.unfinished.Unfinished.{Unfinished}

-- whether an ending can be the answer to an input
abbrev pub is_answer : CommandEnd → Bool
is_answer Done = false
is_answer Usage = false
is_answer ReadFault = false
is_answer WriteFault = false
is_answer DiskFault = false
is_answer GuestFault = false
is_answer (Refused e) = false
is_answer (NotFinished u) = false
is_answer ending = true

abbrev pub HasAnswer : Result (List ℕ) CommandEnd → Type 0
HasAnswer (Ok text) = Unit {0}
HasAnswer (Err e) = is_answer e ≡ true

fault-answers : (e : InputFault) → is_answer (ending_of e) ≡ true
fault-answers e = elim (fault-ends e) [ inl is ↦ ap is_answer is | inr is ↦ ap is_answer is ]

step-answers : {A : Type 0} (read : Result A InputFault) (next : A → Result (List ℕ) CommandEnd) → ((a : A) → HasAnswer (next a)) → HasAnswer (or_ending read >>= next)
step-answers (Ok a) next h = h a
step-answers (Err e) next h = fault-answers e

with-choice-answers : (p : Problem) (choice : Result Choice Cause) → HasAnswer (with_choice p choice)
with-choice-answers p (Ok choice) = tt
with-choice-answers p (Err (Unchosen (cause.OverCapacity l side load capacity))) = refl
with-choice-answers p (Err (Unchosen (cause.TableFull w entries size))) = refl
with-choice-answers p (Err (Unchosen (cause.NoSlack l side load capacity))) = refl
with-choice-answers p (Err (Unchosen cause.Memory)) = refl
with-choice-answers p (Err (Unfound why)) = refl
with-choice-answers p (Err (Stuck link)) = refl

planned-answers : (planner : Planner) (p : Problem) → HasAnswer (planned planner p)
unfolding planned
planned-answers planner p = with-choice-answers p (chosen_by planner p)

checked-step-by : (d : DocumentRead) (next : Rollout → Result (List ℕ) CommandEnd) (broken : Option Broken) → first_broken d.problem d.plan ≡ broken → ((o : Rollout) → HasAnswer (next o)) → HasAnswer (checked d >>= next)
checked-step-by d next None e h = rw (checked-by d None e) (h (as_rollout d))
checked-step-by d next (Some b) e h = rw (checked-by d (Some b) e) refl

proof-answers : (p : Problem) (c : Choice) (answer : Least) → HasAnswer (with_proof p c.plan c.rate_steps answer)
proof-answers p c (least.Shown proof) = tt
proof-answers p c (least.Fewer plan) = refl
proof-answers p c (least.Point xs) = refl
proof-answers p c least.Wide = refl
proof-answers p c (least.Overflow made) = refl
proof-answers p c (least.Spent made) = refl
proof-answers p c least.Memory = refl

few-answers : (b : Bool) (found : Result (List ℕ) CommandEnd) → HasAnswer found → HasAnswer (where_few b found)
few-answers true found h = h
few-answers false found h = refl

proved-answers : (p : Problem) (c : Choice) → HasAnswer (proved p c.plan c.rate_steps)
unfolding proved
proved-answers p c = few-answers (nat_le (rate_steps p c.plan) c.rate_steps) (with_proof p c.plan c.rate_steps (least_of p c.rate_steps)) (proof-answers p c (least_of p c.rate_steps))

with-least-answers : (p : Problem) (choice : Result Choice Cause) → HasAnswer (with_least p choice)
with-least-answers p (Ok choice) = proved-answers p choice
with-least-answers p (Err (Unchosen (cause.OverCapacity l side load capacity))) = refl
with-least-answers p (Err (Unchosen (cause.TableFull w entries size))) = refl
with-least-answers p (Err (Unchosen (cause.NoSlack l side load capacity))) = refl
with-least-answers p (Err (Unchosen cause.Memory)) = refl
with-least-answers p (Err (Unfound why)) = refl
with-least-answers p (Err (Stuck link)) = refl

least-answers : (p : Problem) → HasAnswer (least_planned p)
unfolding least_planned
least-answers p = with-least-answers p (chosen_by Slack p)

shown-answers : (b : Bool) (o : Rollout) → HasAnswer (where_shown b o.plan)
shown-answers true o = tt
shown-answers false o = refl

claim-answers : (o : Rollout) (claim : Option Claim) → HasAnswer (claimed_line o claim)
claim-answers o None = tt
claim-answers o (Some claim) = shown-answers (is_shown o claim) o

judged-answers : (c : Claimed) → HasAnswer (judged c)
unfolding judged
judged-answers c = checked-step-by c.document (λ o. claimed_line o c.claim) (first_broken c.document.problem c.document.plan) refl (λ o. claim-answers o c.claim)

loaded-answers : (d : DocumentRead) → HasAnswer (loaded d)
unfolding loaded
loaded-answers d = checked-step-by d (λ o. Ok (loads_text o.problem o.plan)) (first_broken d.problem d.plan) refl (λ o. tt)

turned-answers : (d : DocumentRead) → HasAnswer (turned_back d)
unfolding turned_back
turned-answers d = checked-step-by d (λ o. Ok (back_text o)) (first_broken d.problem d.plan) refl (λ o. tt)

explained-answers : (d : DocumentRead) → HasAnswer (explained d)
unfolding explained
explained-answers d = checked-step-by d (λ o. Ok (explain_text o.problem o.plan)) (first_broken d.problem d.plan) refl (λ o. tt)

rehearsed-answers : (policy : OpView → ℕ) (s : ScriptedRead) → HasAnswer (rehearsed policy s)
unfolding rehearsed
rehearsed-answers policy s = checked-step-by s.document (λ o. Ok (script_text o.problem o.plan policy s.script)) (first_broken s.document.problem s.document.plan) refl (λ o. tt)

drawn-answers : (shape : ScriptShape) (policy : OpView → ℕ) (d : DocumentRead) → HasAnswer (drawn_up shape policy d)
unfolding drawn_up
drawn-answers shape policy d = checked-step-by d (λ o. Ok (rehearsal_text shape policy o)) (first_broken d.problem d.plan) refl (λ o. tt)

pub command-answers : (c : TextAsked) (input : List ℕ) → HasAnswer (answer_in c input)
unfolding answer_in
command-answers (a_plan planner) input = step-answers (problem_in input) (planned planner) (planned-answers planner)
command-answers a_check input = step-answers (claimed_in input) judged judged-answers
command-answers the_loads input = step-answers (document_in input) loaded loaded-answers
command-answers the_way_back input = step-answers (document_in input) turned_back turned-answers
command-answers the_explanation input = step-answers (document_in input) explained explained-answers
command-answers the_least input = step-answers (problem_in input) least_planned least-answers
command-answers (a_rehearsal policy) input = step-answers (scripted_in input) (rehearsed policy) (rehearsed-answers policy)
command-answers (a_script shape policy) input = step-answers (document_in input) (drawn_up shape policy) (drawn-answers shape policy)

ends-only : (answer : Result (List ℕ) CommandEnd) (e : CommandEnd) (out now : Option (List ℕ)) → HasAnswer answer → EndsWith answer e out now → (e ≡ Done) ⊎ ((e ≡ WriteFault) ⊎ (is_answer e ≡ true))
ends-only (Ok text) e out now h (inl done) = inl done.0
ends-only (Ok text) e out now h (inr cut) = inr (inl cut.0)
ends-only (Err d) e out now h w = inr (inr (ap is_answer w.0 ∙ h))

pub no-read-fault : (c : TextAsked) (input : List ℕ) (out now : Option (List ℕ)) → Follows (answer_in c input) ReadFault out now → ⊥
no-read-fault c input out now h = elim (ends-only _ ReadFault out now (command-answers c input) h) [ inl e ↦ cc | inr e ↦ elim e [ inl f ↦ cc | inr f ↦ cc ] ]

pub no-usage : (c : TextAsked) (input : List ℕ) (out now : Option (List ℕ)) → Follows (answer_in c input) Usage out now → ⊥
no-usage c input out now h = elim (ends-only _ Usage out now (command-answers c input) h) [ inl e ↦ cc | inr e ↦ elim e [ inl f ↦ cc | inr f ↦ cc ] ]

pub no-disk-fault : (c : TextAsked) (input : List ℕ) (out now : Option (List ℕ)) → Follows (answer_in c input) DiskFault out now → ⊥
no-disk-fault c input out now h = elim (ends-only _ DiskFault out now (command-answers c input) h) [ inl e ↦ cc | inr e ↦ elim e [ inl f ↦ cc | inr f ↦ cc ] ]

pub no-guest-fault : (c : TextAsked) (input : List ℕ) (out now : Option (List ℕ)) → Follows (answer_in c input) GuestFault out now → ⊥
no-guest-fault c input out now h = elim (ends-only _ GuestFault out now (command-answers c input) h) [ inl e ↦ cc | inr e ↦ elim e [ inl f ↦ cc | inr f ↦ cc ] ]

pub no-rollout : (c : TextAsked) (input : List ℕ) (u : Unfinished) (out now : Option (List ℕ)) → Follows (answer_in c input) (NotFinished u) out now → ⊥
no-rollout c input u out now h = elim (ends-only _ (NotFinished u) out now (command-answers c input) h) [ inl e ↦ cc | inr e ↦ elim e [ inl f ↦ cc | inr f ↦ cc ] ]

-- ---- a document alone

broken-answers : (d : DocumentRead) (e : CommandEnd) (broken : Option Broken) → first_broken d.problem d.plan ≡ broken → checked d ≡ Err e → is_answer e ≡ true
broken-answers d e None is h = absurd (let no : Ok (as_rollout d) ≡ Err e = sym (checked-by d None is) ∙ h in cc)
broken-answers d e (Some b) is h =
    let both : Err (NotValid d.problem b) ≡ Err e = sym (checked-by d (Some b) is) ∙ h in
    let same : NotValid d.problem b ≡ e = cc both in
    ap is_answer (sym same)

read-answers : (read : Result DocumentRead InputFault) (e : CommandEnd) → or_ending read >>= checked ≡ Err e → is_answer e ≡ true
read-answers (Ok d) e h = broken-answers d e (first_broken d.problem d.plan) refl h
read-answers (Err f) e h =
    let same : ending_of f ≡ e = cc h in
    ap is_answer (sym same) ∙ fault-answers f

-- no document comes to an ending of a device
pub rollout-answers : (input : List ℕ) (e : CommandEnd) → rollout_in input ≡ Err e → is_answer e ≡ true
unfolding rollout_in
rollout-answers input e h = read-answers (document_in input) e h

pub rollout-gives : (input : List ℕ) (e : CommandEnd) → Gives {A = Rollout} (Err e) (rollout_in input) → is_answer e ≡ true
rollout-gives input Done g = rollout-answers input Done g
rollout-gives input Usage g = rollout-answers input Usage g
rollout-gives input AboveLimit g = refl
rollout-gives input (Input f) g = refl
rollout-gives input (NotValid p b) g = refl
rollout-gives input (NoPlan u) g = refl
rollout-gives input (Unshown u) g = refl
rollout-gives input ReadFault g = rollout-answers input ReadFault g
rollout-gives input WriteFault g = rollout-answers input WriteFault g
rollout-gives input DiskFault g = rollout-answers input DiskFault g
rollout-gives input GuestFault g = rollout-answers input GuestFault g
rollout-gives input (Refused f) g = rollout-answers input (Refused f) g
rollout-gives input (NotFinished u) g = rollout-answers input (NotFinished u) g
rollout-gives input OutOfMemory g = refl

pub no-done : (c : TextAsked) (input : List ℕ) → Gives {A = List ℕ} (Err Done) (answer_in c input) → ⊥
no-done c input h = let e : is_answer Done ≡ true = (rw h at (command-answers c input)) in cc

pub no-write-fault : (c : TextAsked) (input : List ℕ) → Gives {A = List ℕ} (Err WriteFault) (answer_in c input) → ⊥
no-write-fault c input h = let e : is_answer WriteFault ≡ true = (rw h at (command-answers c input)) in cc
