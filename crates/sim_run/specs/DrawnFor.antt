-- A script that was drawn for a rollout.
use Rattle.std.specs.Prelude.{◌≡◌, ℕ, ◌≤◌, List, length}
use Rattle.rollout_rules.specs.Wan.{Rollout}
use Rattle.rollout_rules.specs.declared.limits.TheConstants.{MOST_ACTS}
use Rattle.rollout_rules.specs.declared.op.OpView.{OpView}
use Rattle.rollout_rules.specs.declared.event.Act.{Act}
use Rattle.case_gen.specs.Draws.{seeded}
use Rattle.sim_run.specs.Drafts.{drawn_script}
use Rattle.sim_run.specs.declared.draft.DrawnScript.{DrawnScript}
use Rattle.sim_run.specs.declared.script_shape.ScriptShape.{ScriptShape}

-- the script of these numbers, which has no more acts than one may have
pub record IsScriptFor (policy : OpView → ℕ) (shape : ScriptShape) (o : Rollout) (script : List Act) : Type 0 where
  pub is : script ≡ drawn_script o.problem o.plan policy (seeded shape.seed) shape.events
  pub few : length script ≤ MOST_ACTS

-- with its rollout
pub record IsDrawnFor (policy : OpView → ℕ) (shape : ScriptShape) (o : Rollout) (drawn : DrawnScript) : Type 0 where
  pub rollout : drawn.plan ≡ o
  pub script : IsScriptFor policy shape o drawn.script
