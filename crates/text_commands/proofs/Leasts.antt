-- The plan that is chosen for a problem, with what shows that fewer rate steps are impossible.
use Rattle.std.proofs.Common.{◌≡◌, ℕ, ◌<◌, ◌≤◌, ◌==◌, List, true, Result, Ok, Err, IfOk, None, ap, sym, ◌∙◌, subst, arith, le-leb}
use Rattle.std.proofs.lemmas.Bool.{lt-leb}
use Rattle.lists.proofs.Numbers.{at_most_through}
use Rattle.rollout_rules.specs.Wan.{Problem, Plan, Rollout}
use Rattle.rollout_rules.specs.Network.{IsNetwork}
use Rattle.scratch_plan.specs.Frame.{has_equal_rates}
use Rattle.scratch_plan.specs.Refusals.{refusal}
use Rattle.scratch_plan.specs.declared.no_plan.NoPlan.{NoPlan as Unplannable}
use Rattle.scratch_plan.specs.declared.no_plan.NoPlan.TheVariants.{OverCapacity, TableFull, NoSlack, Memory}
use Rattle.plan_choose.specs.Choice.{Choice, chosen}
use Rattle.plan_choose.proofs.Counted.{chosen-free, chosen-still}
use Rattle.fewest_plan.specs.declared.cause.Cause.{Cause}
use Rattle.fewest_plan.specs.declared.cause.Cause.TheVariants.{Unchosen, Unfound, Stuck}
use Rattle.fewest_plan.specs.Found.{Refuses}
use Rattle.fraction_lp.specs.declared.proof.Proof.{Proof}
use Rattle.lp_proof.specs.RateSteps.{rate_steps, TakesAtLeast}
use Rattle.lp_proof.specs.Shown.{shows_least}
use Rattle.lp_proof.specs.Least.{least_of}
use Rattle.lp_proof.specs.declared.least.Least.{Least}
use Rattle.lp_proof.proofs.Built.{accepted-shows}
use Rattle.lp_proof.proofs.NoFewer.{takes_at_least}
use Rattle.text_commands.specs.Answers.{chosen_by, least_planned, or_unchosen, proved, where_few, with_least, with_proof}
use Rattle.text_commands.specs.CommandEnds.{ending_without}
use Rattle.text_commands.specs.Runs.{Gives}
use Rattle.text_commands.specs.Safety.{HasLeast, IsLeast, IsSafePlan, IsValid}
use Rattle.text_commands.specs.declared.command_end.CommandEnd.{CommandEnd}
use Rattle.text_commands.specs.declared.command_end.CommandEnd.TheVariants.{NoPlan, Unshown}
use Rattle.text_commands.specs.declared.unshown.Unshown.TheVariants as why
use Rattle.text_commands.specs.declared.words.Planner.TheVariants.{Slack}

unchosen-ok : (r : Result Choice Unplannable) (c : Choice) → or_unchosen r ≡ Ok c → r ≡ Ok c
unchosen-ok (Ok d) c e = let same : d ≡ c = cc in ap Ok same
unchosen-ok (Err cause) c e = cc

-- what is chosen by `slack`
pub slack-ok : (p : Problem) (c : Choice) → chosen_by Slack p ≡ Ok c → chosen p ≡ Ok c
slack-ok p c e = unchosen-ok (chosen p) c e

module _ (p other : Problem) (plan : Plan) (q : ℕ) (same : other ≡ p) where
  pub choice-free : chosen_by Slack p ≡ Ok (record { plan = plan; rate_steps = q }) → refusal other ≡ None
  choice-free e =
      let c : Choice = record { plan = plan; rate_steps = q } in
      subst (λ x. refusal x ≡ None) (sym same) (chosen-free p c (slack-ok p c e))

  pub choice-still : chosen_by Slack p ≡ Ok (record { plan = plan; rate_steps = q }) → (q == 0) ≡ has_equal_rates other
  choice-still e =
      let c : Choice = record { plan = plan; rate_steps = q } in
      subst (λ x. (q == 0) ≡ has_equal_rates x) (sym same) (chosen-still p c (slack-ok p c e))

  -- what is made of what is found
  pub answer-is : (answer : Least) → least_of other q ≡ answer → with_proof p plan q (least_of p q) ≡ with_proof p plan q answer
  answer-is answer is = ap (with_proof p plan q) (ap (λ x. least_of x q) (sym same) ∙ is)

  pub accepted-least : (proof : Proof) → IsNetwork p → shows_least other q proof ≡ true → TakesAtLeast p q
  accepted-least proof net e = takes_at_least p q proof net (accepted-shows p q proof (subst (λ x. shows_least x q proof ≡ true) same e))

-- ---- no more rate steps than were chosen

module _ (p : Problem) (plan : Plan) (q : ℕ) where
  pub many-gives : (steps : ℕ) → steps ≡ rate_steps p plan → q < steps → proved p plan q ≡ Err (Unshown why.Fewer)
  unfolding proved
  many-gives steps count many =
      let above : q < rate_steps p plan = subst (λ n. q < n) count many in
      ap (λ b. where_few b (with_proof p plan q (least_of p q))) (lt-leb (rate_steps p plan) q above)

  pub few-gives : (steps : ℕ) → steps ≡ rate_steps p plan → steps ≤ q → proved p plan q ≡ with_proof p plan q (least_of p q)
  unfolding proved
  few-gives steps count few =
      let within : rate_steps p plan ≤ q = subst (λ n. n ≤ q) count few in
      ap (λ b. where_few b (with_proof p plan q (least_of p q))) (le-leb (rate_steps p plan) q within)

  -- what no plan has fewer of than were chosen, none has fewer of than this one
  few-least : rate_steps p plan ≤ q → TakesAtLeast p q → HasLeast p plan
  few-least few least = λ other valid rest. at_most_through (rate_steps p plan) q (rate_steps p other) few (least other valid rest)

  pub few-answer : {A : Type 0} (steps : ℕ) (r : Result A CommandEnd) → steps ≡ rate_steps p plan → steps ≤ q → IfOk r (λ text. TakesAtLeast p q) → IfOk r (λ text. HasLeast p plan)
  few-answer steps (Ok text) count few least = few-least (subst (λ n. n ≤ q) count few) least
  few-answer steps (Err e) count few least = tt

-- ---- a problem

module _ (p : Problem) (o : Rollout) (q : ℕ) (same : o.problem ≡ p) (is_chosen : chosen_by Slack p ≡ Ok (record { plan = o.plan; rate_steps = q })) where
  pub least-chosen : chosen_by Slack o.problem ≡ Ok (record { plan = o.plan; rate_steps = q })
  least-chosen = ap (chosen_by Slack) same ∙ is_chosen

  pub least-gives : (r : Result (List ℕ) CommandEnd) → Gives r (proved o.problem o.plan q) → Gives r (least_planned p)
  unfolding least_planned
  least-gives r h = subst (λ x. Gives r x) (ap (λ x. proved x o.plan q) same ∙ sym (ap (with_least p) is_chosen)) h

  pub least-safe : {A : Type 0} (r : Result A CommandEnd) → IfOk r (λ text. HasLeast o.problem o.plan) → IsValid o.problem o.plan → IsSafePlan o.problem o.plan → IfOk r (λ text. IsLeast p)
  least-safe (Ok text) least valid safe = record {
    choice = record { plan = o.plan; rate_steps = q };
    is_chosen = slack-ok p (record { plan = o.plan; rate_steps = q }) is_chosen;
    least = subst (λ x. HasLeast x o.plan) same least;
    valid = subst (λ x. IsValid x o.plan) same valid;
    safe = subst (λ x. IsSafePlan x o.plan) same safe;
  }
  least-safe (Err e) least valid safe = tt

-- the cause that nothing is chosen ends the run
pub unplanned-least : (p q : Problem) (cause : Cause) → q ≡ p → Refuses cause (chosen_by Slack p) → Gives {A = List ℕ} (Err (ending_without q cause)) (least_planned p)
unfolding least_planned
unplanned-least p q (Unchosen (OverCapacity l side load capacity)) same is = ap (with_least p) is ∙ ap (λ x. Err (NoPlan (record { problem = x; cause = Unchosen (OverCapacity l side load capacity) }))) (sym same)
unplanned-least p q (Unchosen (TableFull w entries size)) same is = ap (with_least p) is ∙ ap (λ x. Err (NoPlan (record { problem = x; cause = Unchosen (TableFull w entries size) }))) (sym same)
unplanned-least p q (Unchosen (NoSlack l side load capacity)) same is = ap (with_least p) is ∙ ap (λ x. Err (NoPlan (record { problem = x; cause = Unchosen (NoSlack l side load capacity) }))) (sym same)
unplanned-least p q (Unchosen Memory) same is = tt
unplanned-least p q (Unfound cause) same is = ap (with_least p) is ∙ ap (λ x. Err (NoPlan (record { problem = x; cause = Unfound cause }))) (sym same)
unplanned-least p q (Stuck link) same is = ap (with_least p) is ∙ ap (λ x. Err (NoPlan (record { problem = x; cause = Stuck link }))) (sym same)
