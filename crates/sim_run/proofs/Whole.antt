-- The text of a script, put together.
use Rattle.std.proofs.Common.{◌≡◌, true, List, [], ◌++◌, ℕ, refl, sym, subst, ap, ap₂, ◌∙◌}
use Rattle.std.specs.Prelude.{IfOk, Result}
use Rattle.std.specs.declared.alloc.AllocError.{AllocError}
use Rattle.rollout_rules.specs.Wan.{Rollout}
use Rattle.rollout_rules.specs.declared.op.OpView.{OpView}
use Rattle.rollout_rules.specs.declared.event.Act.{Act}
use Rattle.rollout_report.specs.Ends.{end_lines}
use Rattle.sim_run.specs.Acts.{first_rehearsal, after_acts}
use Rattle.sim_run.specs.Rehearsing.{Rehearsing, first_of, text_from}
use Rattle.sim_run.specs.Script.{act_lines, script_text}

unfolded : (r : Rehearsing) (policy : OpView → ℕ) (script : List Act)
    → act_lines r.rollout.problem r.rollout.plan policy 0 r.state script ++ end_lines r.rollout.problem r.rollout.plan (after_acts r.rollout.problem r.rollout.plan policy r.state script).world.durable
    ≡ text_from r policy script
unfolding text_from
unfolded r policy script = refl

of_first : (o : Rollout) → first_of o ≡ record { rollout = o; state = first_rehearsal o.problem o.plan; live = true }
unfolding first_of
of_first o = refl

-- what is said of the acts, and then the lines after them
pub text_is : (policy : OpView → ℕ) (script : List Act) (first last : Rehearsing) (begin acted text : List ℕ)
    → begin ≡ []
    → last ≡ record first { state = after_acts first.rollout.problem first.rollout.plan policy first.state script }
    → acted ≡ begin ++ act_lines first.rollout.problem first.rollout.plan policy 0 first.state script
    → text ≡ acted ++ end_lines last.rollout.problem last.rollout.plan last.state.world.durable → text ≡ text_from first policy script
text_is policy script first last begin acted text empty done lines ended =
    let lined : acted ≡ act_lines first.rollout.problem first.rollout.plan policy 0 first.state script = lines ∙ ap (λ t. t ++ act_lines first.rollout.problem first.rollout.plan policy 0 first.state script) empty in
    ended ∙ ap₂ (λ t r. t ++ end_lines r.rollout.problem r.rollout.plan r.state.world.durable) lined done ∙ unfolded first policy script

-- the text from the first rehearsal on
pub first_text : (o : Rollout) (policy : OpView → ℕ) (script : List Act) (first : Rehearsing) (result : Result (List ℕ) AllocError)
    → first ≡ record { rollout = o; state = first_rehearsal o.problem o.plan; live = true } → IfOk result (λ text. text ≡ text_from first policy script) → IfOk result (λ text. text ≡ text_from (first_of o) policy script)
first_text o policy script first result new is = subst (λ (r : Rehearsing). IfOk result (λ text. text ≡ text_from r policy script)) (new ∙ sym (of_first o)) is

-- is that of the script
pub whole_text : (o : Rollout) (policy : OpView → ℕ) (script : List Act) → text_from (first_of o) policy script ≡ script_text o.problem o.plan policy script
unfolding text_from first_of
whole_text o policy script = refl
