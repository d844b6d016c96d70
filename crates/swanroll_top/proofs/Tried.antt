-- How a trial follows from its numbers.
use Rattle.std.proofs.Common.{◌≡◌, ℕ, List, Option, Result, Ok, Err, IsOk, refl, sym, subst, ap, ◌∙◌}
use Rattle.rand_pcg.specs.Lcg.{Lcg}
use Rattle.rollout_rules.specs.Wan.{Problem, Rollout}
use Rattle.rollout_rules.specs.declared.op.OpView.{OpView}
use Rattle.plan_choose.specs.Choice.{Choice}
use Rattle.fewest_plan.specs.declared.cause.Cause.{Cause}
use Rattle.fewest_plan.specs.declared.cause.Cause.TheVariants.{Unchosen, Unfound, Stuck}
use Rattle.fewest_plan.specs.Found.{Refuses}
use Rattle.scratch_plan.specs.declared.no_plan.NoPlan.TheVariants.{OverCapacity, TableFull, NoSlack, Memory}
use Rattle.case_gen.specs.Draws.{seeded}
use Rattle.case_gen.proofs.Planned.{has_plan}
use Rattle.sim_run.specs.TrialText.{trial_text}
use Rattle.sim_run.specs.declared.shape.Shape.{Shape}
use Rattle.text_commands.specs.Answers.{chosen_by}
use Rattle.text_commands.specs.CommandEnds.{ending_without}
use Rattle.text_commands.specs.Runs.{Follows, Gives}
use Rattle.swanroll_top.specs.Tries.{IsShape, case_of, events_of, tried, with_plan}
use Rattle.text_commands.specs.declared.command_end.CommandEnd.{CommandEnd}
use Rattle.text_commands.specs.declared.command_end.CommandEnd.TheVariants.{Done, Usage, AboveLimit, Input, NotValid, NoPlan, Unshown, ReadFault, WriteFault, DiskFault, GuestFault, Refused, NotFinished, OutOfMemory}
use Rattle.text_commands.specs.declared.words.Planner.TheVariants.{Slack}
use Rattle.text_commands.proofs.Planned.{IsChoice, there-by}

not-ok : (r : Result (List ℕ) CommandEnd) (e : CommandEnd) → IsOk r → r ≡ Err e → ⊥
not-ok (Ok text) e ok is = cc
not-ok (Err x) e ok is = cc

module _ (policy : OpView → ℕ) (s : Shape) where
  ok-plan : (r : Result Choice Cause) → IsOk r → IsOk (with_plan policy s r)
  ok-plan (Ok choice) ok = refl
  ok-plan (Err cause) ok = absurd cc

  -- each trial has a text
  pub is-tried : IsShape s → IsOk (tried policy s)
  unfolding tried
  is-tried is = ok-plan (chosen_by Slack (case_of s)) (there-by Slack (case_of s) (has_plan s.k s.switches s.flows (seeded s.seed) is.least_k is.most_k))

  pub tried-text : (o : Rollout) (steps : ℕ) (p : Problem) (draws : Lcg) (text : List ℕ) → p ≡ case_of s → draws ≡ events_of s → IsChoice Slack p o steps → text ≡ trial_text o.problem o.plan steps policy s draws → tried policy s ≡ Ok text
  unfolding tried
  tried-text o steps p draws text made behind choice is =
      ap (with_plan policy s) (ap (chosen_by Slack) (sym made) ∙ choice.is_chosen)
      ∙ ap Ok (sym (is ∙ ap (λ q. trial_text q o.plan steps policy s draws) (choice.same ∙ made) ∙ ap (λ (d : Lcg). trial_text (case_of s) o.plan steps policy s d) behind))

  pub tried-unplanned : (p q : Problem) (cause : Cause) → p ≡ case_of s → q ≡ p → Refuses cause (chosen_by Slack p) → Gives {A = List ℕ} (Err (ending_without q cause)) (tried policy s)
  unfolding tried
  tried-unplanned p q (Unchosen (OverCapacity l side load capacity)) made same is = ap (with_plan policy s) (ap (chosen_by Slack) (sym made) ∙ is) ∙ ap (λ x. Err (NoPlan (record { problem = x; cause = Unchosen (OverCapacity l side load capacity) }))) (sym (same ∙ made))
  tried-unplanned p q (Unchosen (TableFull w entries size)) made same is = ap (with_plan policy s) (ap (chosen_by Slack) (sym made) ∙ is) ∙ ap (λ x. Err (NoPlan (record { problem = x; cause = Unchosen (TableFull w entries size) }))) (sym (same ∙ made))
  tried-unplanned p q (Unchosen (NoSlack l side load capacity)) made same is = ap (with_plan policy s) (ap (chosen_by Slack) (sym made) ∙ is) ∙ ap (λ x. Err (NoPlan (record { problem = x; cause = Unchosen (NoSlack l side load capacity) }))) (sym (same ∙ made))
  tried-unplanned p q (Unchosen Memory) made same is = tt
  tried-unplanned p q (Unfound why) made same is = ap (with_plan policy s) (ap (chosen_by Slack) (sym made) ∙ is) ∙ ap (λ x. Err (NoPlan (record { problem = x; cause = Unfound why }))) (sym (same ∙ made))
  tried-unplanned p q (Stuck link) made same is = ap (with_plan policy s) (ap (chosen_by Slack) (sym made) ∙ is) ∙ ap (λ x. Err (NoPlan (record { problem = x; cause = Stuck link }))) (sym (same ∙ made))

  -- so a trial that gives no text ran out of memory
  no-ending : (e : CommandEnd) → IsShape s → tried policy s ≡ Err e → ⊥
  no-ending e is h = not-ok (tried policy s) e (is-tried is) h

  pub only-memory : (e : CommandEnd) → IsShape s → Gives {A = List ℕ} (Err e) (tried policy s) → e ≡ OutOfMemory
  only-memory Done is h = absurd (no-ending Done is h)
  only-memory Usage is h = absurd (no-ending Usage is h)
  only-memory AboveLimit is h = absurd (no-ending AboveLimit is h)
  only-memory (Input f) is h = absurd (no-ending (Input f) is h)
  only-memory (NotValid p b) is h = absurd (no-ending (NotValid p b) is h)
  only-memory (NoPlan u) is h = absurd (no-ending (NoPlan u) is h)
  only-memory (Unshown u) is h = absurd (no-ending (Unshown u) is h)
  only-memory ReadFault is h = absurd (no-ending ReadFault is h)
  only-memory WriteFault is h = absurd (no-ending WriteFault is h)
  only-memory DiskFault is h = absurd (no-ending DiskFault is h)
  only-memory GuestFault is h = absurd (no-ending GuestFault is h)
  only-memory (Refused f) is h = absurd (no-ending (Refused f) is h)
  only-memory (NotFinished u) is h = absurd (no-ending (NotFinished u) is h)
  only-memory OutOfMemory is h = refl

  -- and nothing was written
  pub unwritten : (e : CommandEnd) (out : Option (List ℕ)) → e ≡ OutOfMemory → Follows (tried policy s) e out out
  unwritten e out is = subst (λ x. Follows (tried policy s) x out out) (sym is) refl
