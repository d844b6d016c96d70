-- The parts of a plan with a script that was drawn for it are those that are pushed.
use Rattle.std.proofs.Common.{◌≡◌, ℕ, ◌≤◌, List, length, ap, ap₂, subst, ◌∙◌}
use Rattle.rollout_rules.specs.Wan.{Problem, Plan}
use Rattle.rollout_rules.specs.declared.limits.TheConstants.{MOST_ACTS}
use Rattle.rollout_rules.specs.declared.event.Act.{Act}
use Rattle.problem_json.specs.WithinLimits.{IsPlanWithin}
use Rattle.problem_json.specs.WritingScripts.{scripted_text}
use Rattle.sim_run.specs.declared.draft.DrawnScript.{DrawnScript}
use Rattle.text_commands.specs.Drawn.{IsReadAs, IsReadBack}

module _ (d : DrawnScript) (p : Problem) (plan : Plan) (script : List Act) (problem_is : p ≡ d.plan.problem) (plan_is : plan ≡ d.plan.plan) (script_is : script ≡ d.script) where
  pub same-text : scripted_text p plan script ≡ scripted_text d.plan.problem d.plan.plan d.script
  same-text =
      ap (λ (q : Problem). scripted_text q plan script) problem_is
      ∙ ap₂ (λ (w : Plan) (acts : List Act). scripted_text d.plan.problem w acts) plan_is script_is

  abbrev Reads : Problem → Plan → List Act → Type 0
  Reads q w acts = IsPlanWithin w → length acts ≤ MOST_ACTS → IsReadAs (record { problem = q; plan = w }) acts

  pub read-back : Reads p plan script → IsReadBack d
  read-back reads =
      subst (λ (acts : List Act). Reads d.plan.problem d.plan.plan acts) script_is
      (subst (λ (w : Plan). Reads d.plan.problem w script) plan_is (subst (λ (q : Problem). Reads q plan script) problem_is reads))
