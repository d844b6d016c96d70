-- The plan that is chosen for a problem, and its document.
use Rattle.std.proofs.Common.{◌≡◌, ℕ, ◌≤◌, List, [], ◌∷◌, ◌++◌, true, Result, Ok, Err, IsOk, refl, ap, sym, ◌∙◌, subst, arith}
use Rattle.rollout_rules.specs.Wan.{Problem, Plan, Rollout}
use Rattle.rollout_rules.specs.Network.{IsNetwork}
use Rattle.rollout_rules.specs.Valid.{is_valid_plan}
use Rattle.plan_choose.specs.Choice.{Choice, chosen}
use Rattle.plan_choose.specs.Chosen.{IsChosen}
use Rattle.plan_choose.specs.declared.chosen.Chosen.{Chosen}
use Rattle.plan_choose.specs.declared.chosen.Unplanned.{Unplanned}
use Rattle.fewest_plan.specs.declared.cause.Cause.{Cause}
use Rattle.fewest_plan.specs.declared.cause.Cause.TheVariants.{Unchosen, Unfound, Stuck}
use Rattle.fewest_plan.specs.declared.cause.NotFound.{NotFound}
use Rattle.fewest_plan.specs.Fewest.{fewest}
use Rattle.fewest_plan.specs.Found.{Refuses, IsFewest}
use Rattle.fewest_plan.proofs.Chosen.{fewest-there, fewest-stuck, never_more}
use Rattle.fewest_plan.proofs.Stuckness.{stuck-none}
use Rattle.problem_json.specs.Writing.{document_text}
use Rattle.scratch_plan.specs.Refusals as scratch
use Rattle.scratch_plan.specs.declared.no_plan.NoPlan.{NoPlan as Unplannable}
use Rattle.scratch_plan.specs.declared.no_plan.NoPlan.TheVariants.{OverCapacity, TableFull, NoSlack, Memory}
use Rattle.text_commands.specs.Answers.{or_unchosen, chosen_by, IsChosenBy, with_choice, planned}
use Rattle.text_commands.specs.CommandEnds.{ending_without}
use Rattle.text_commands.specs.Runs.{Gives}
use Rattle.text_commands.specs.Safety.{IsPlanned, IsSafePlan, IsValid}
use Rattle.text_commands.specs.declared.command_end.CommandEnd.{CommandEnd}
use Rattle.text_commands.specs.declared.command_end.CommandEnd.TheVariants.{NoPlan}
use Rattle.text_commands.specs.declared.words.Planner.{Planner}
use Rattle.text_commands.specs.declared.words.Planner.TheVariants.{Slack, Fewest}

-- each planner's answer in its own words
unchosen-refuses : (cause : Unplannable) (r : Result Choice Unplannable) → scratch.Refuses cause r → Refuses (Unchosen cause) (or_unchosen r)
unchosen-refuses (OverCapacity l side load capacity) r is = ap or_unchosen is
unchosen-refuses (TableFull w entries size) r is = ap or_unchosen is
unchosen-refuses (NoSlack l side load capacity) r is = ap or_unchosen is
unchosen-refuses Memory r is = tt

pub slack-found : (p : Problem) (c : Chosen) → IsChosen p (Ok c) → IsChosenBy Slack p (Ok c)
slack-found p c told = (told.0, ap or_unchosen told.1)

pub slack-missed : (p : Problem) (u : Unplanned) (missed : NotFound) → IsChosen p (Err u) → missed.problem ≡ u.problem → missed.cause ≡ Unchosen u.cause → IsChosenBy Slack p (Err missed)
slack-missed p u missed told same cause =
    (same ∙ told.0, subst (λ x. Refuses {A = Choice} x (or_unchosen (chosen p))) (sym cause) (unchosen-refuses u.cause (chosen p) told.1))

pub slack-chosen : (planner : Planner) (p : Problem) (r : Result Chosen NotFound) → planner ≡ Slack → IsChosenBy Slack p r → IsChosenBy planner p r
slack-chosen planner p r is told = subst (λ x. IsChosenBy x p r) (sym is) told

pub fewest-chosen : (planner : Planner) (p : Problem) (r : Result Chosen NotFound) → planner ≡ Fewest → IsFewest p r → IsChosenBy planner p r
fewest-chosen planner p (Ok c) is told = (told.0, ap (λ x. chosen_by x p) is ∙ told.1)
fewest-chosen planner p (Err u) is told = (told.0, subst (λ x. Refuses {A = Choice} u.cause (chosen_by x p)) (sym is) told.1)

-- no planner's plan has more rate steps than that of `slack`, and each has one where `slack` has one
same-steps : (c other : Choice) → ◌≡◌ {A = Result Choice Cause} (Ok c) (Ok other) → c.rate_steps ≤ other.rate_steps
same-steps c other e =
    let same : c ≡ other = cc in
    omega (arith, ap (λ d. d.rate_steps) same)

pub no-more : (planner : Planner) (p : Problem) (c other : Choice) → chosen_by planner p ≡ Ok c → chosen p ≡ Ok other → c.rate_steps ≤ other.rate_steps
no-more Slack p c other is e = same-steps c other (sym is ∙ ap or_unchosen e)
no-more Fewest p c other is e = never_more p other c e is

pub ok-chosen : (r : Result Choice Unplannable) → IsOk r → IsOk (or_unchosen r)
ok-chosen (Ok c) ok = refl
ok-chosen (Err cause) ok = absurd cc

pub chosen-ok : (r : Result Choice Unplannable) → IsOk (or_unchosen r) → IsOk r
chosen-ok (Ok c) ok = refl
chosen-ok (Err cause) ok = absurd cc

pub there-by : (planner : Planner) (p : Problem) → IsOk (chosen p) → IsOk (chosen_by planner p)
there-by Slack p ok = ok-chosen (chosen p) ok
there-by Fewest p ok = fewest-there p ok

-- a rollout whose plan a planner chose for a problem
pub record IsChoice (planner : Planner) (p : Problem) (o : Rollout) (steps : ℕ) : Type 0 where
  pub same : o.problem ≡ p
  pub is_chosen : chosen_by planner p ≡ Ok (record { plan = o.plan; rate_steps = steps })

pub chosen-document : (planner : Planner) (p : Problem) (o : Rollout) (steps : ℕ) (text : List ℕ) → IsChoice planner p o steps → text ≡ document_text o.problem o.plan ++ 10 ∷ [] → planned planner p ≡ Ok text
unfolding planned
chosen-document planner p o steps text choice is = ap (with_choice p) choice.is_chosen ∙ ap Ok (ap (λ q. document_text q o.plan ++ 10 ∷ []) (sym choice.same) ∙ sym is)

pub chosen-safe : (planner : Planner) (p : Problem) (o : Rollout) (steps : ℕ) → IsChoice planner p o steps → IsValid o.problem o.plan → IsSafePlan o.problem o.plan → IsPlanned planner p
chosen-safe planner p o steps choice valid safe = record {
  choice = record { plan = o.plan; rate_steps = steps };
  is_chosen = choice.is_chosen;
  no_more = λ other e. no-more planner p (record { plan = o.plan; rate_steps = steps }) other choice.is_chosen e;
  valid = subst (λ q. IsValid q o.plan) choice.same valid;
  safe = subst (λ q. IsSafePlan q o.plan) choice.same safe;
}

-- the cause ends the run
pub unplanned-gives : (planner : Planner) (p q : Problem) (cause : Cause) → q ≡ p → Refuses cause (chosen_by planner p) → Gives {A = List ℕ} (Err (ending_without q cause)) (planned planner p)
unfolding planned
unplanned-gives planner p q (Unchosen (OverCapacity l side load capacity)) same is = ap (with_choice p) is ∙ ap (λ x. Err (NoPlan (record { problem = x; cause = Unchosen (OverCapacity l side load capacity) }))) (sym same)
unplanned-gives planner p q (Unchosen (TableFull w entries size)) same is = ap (with_choice p) is ∙ ap (λ x. Err (NoPlan (record { problem = x; cause = Unchosen (TableFull w entries size) }))) (sym same)
unplanned-gives planner p q (Unchosen (NoSlack l side load capacity)) same is = ap (with_choice p) is ∙ ap (λ x. Err (NoPlan (record { problem = x; cause = Unchosen (NoSlack l side load capacity) }))) (sym same)
unplanned-gives planner p q (Unchosen Memory) same is = tt
unplanned-gives planner p q (Unfound cause) same is = ap (with_choice p) is ∙ ap (λ x. Err (NoPlan (record { problem = x; cause = Unfound cause }))) (sym same)
unplanned-gives planner p q (Stuck link) same is = ap (with_choice p) is ∙ ap (λ x. Err (NoPlan (record { problem = x; cause = Stuck link }))) (sym same)

-- ---- the answer that none exists
missed-same : (a b : NotFound) → NoPlan a ≡ NoPlan b → a ≡ b
missed-same a b e = cc

cause-same : (p : Problem) (a b : Cause) → NoPlan (record { problem = p; cause = a }) ≡ NoPlan (record { problem = p; cause = b }) → a ≡ b
cause-same p a b e = ap (λ (m : NotFound). m.cause) (missed-same (record { problem = p; cause = a }) (record { problem = p; cause = b }) e)

ending-stuck : (p : Problem) (cause : Cause) (link : ℕ) → ending_without p cause ≡ NoPlan (record { problem = p; cause = Stuck link }) → cause ≡ Stuck link
ending-stuck p (Unchosen (OverCapacity l side load capacity)) link e = cause-same p (Unchosen (OverCapacity l side load capacity)) (Stuck link) e
ending-stuck p (Unchosen (TableFull w entries size)) link e = cause-same p (Unchosen (TableFull w entries size)) (Stuck link) e
ending-stuck p (Unchosen (NoSlack l side load capacity)) link e = cause-same p (Unchosen (NoSlack l side load capacity)) (Stuck link) e
ending-stuck p (Unchosen Memory) link e = cc
ending-stuck p (Unfound why) link e = cause-same p (Unfound why) (Stuck link) e
ending-stuck p (Stuck l) link e = cause-same p (Stuck l) (Stuck link) e

err-same : (a b : CommandEnd) → ◌≡◌ {A = Result (List ℕ) CommandEnd} (Err a) (Err b) → a ≡ b
err-same a b e = cc

pub said-stuck : (p : Problem) (r : Result Choice Cause) (link : ℕ) → with_choice p r ≡ Err (NoPlan (record { problem = p; cause = Stuck link })) → r ≡ Err (Stuck link)
said-stuck p (Ok choice) link e = cc
said-stuck p (Err cause) link e = ap (λ (x : Cause). Err x) (ending-stuck p cause link (err-same (ending_without p cause) (NoPlan (record { problem = p; cause = Stuck link })) e))

unchosen-never : (r : Result Choice Unplannable) (link : ℕ) → or_unchosen r ≡ Err (Stuck link) → ⊥
unchosen-never (Ok choice) link e = cc
unchosen-never (Err cause) link e = cc

pub said-none : (planner : Planner) (p : Problem) (link : ℕ) → IsNetwork p → chosen_by planner p ≡ Err (Stuck link) → (plan : Plan) → is_valid_plan p plan ≡ true → ⊥
said-none Slack p link net e plan valid = unchosen-never (chosen p) link e
said-none Fewest p link net e plan valid = stuck-none p link net (fewest-stuck p link e) plan valid
