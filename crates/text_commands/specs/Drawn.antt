-- The text of a plan with a script that was drawn for it, and that it is read again as both.
use Rattle.std.specs.Prelude.{◌≡◌, ℕ, ◌≤◌, List, [], ◌∷◌, ◌++◌, length, Ok}
use Rattle.rollout_rules.specs.Wan.{Rollout}
use Rattle.rollout_rules.specs.declared.limits.TheConstants.{MOST_ACTS}
use Rattle.rollout_rules.specs.declared.event.Act.{Act}
use Rattle.problem_json.specs.GrammarDocuments.{scripted_in}
use Rattle.problem_json.specs.WithinLimits.{IsPlanWithin}
use Rattle.problem_json.specs.WritingScripts.{scripted_text}
use Rattle.sim_run.specs.declared.draft.DrawnScript.{DrawnScript}

-- its document with the script, and a line feed
abbrev pub script_drawn : DrawnScript → List ℕ
script_drawn d = scripted_text d.plan.problem d.plan.plan d.script ++ 10 ∷ []

-- the document of a rollout with a script is read as both
abbrev pub IsReadAs : Rollout → List Act → Type 0
IsReadAs o script =
    scripted_in (scripted_text o.problem o.plan script) ≡ Ok (record { document = record { problem = o.problem; plan = o.plan }; script = script })

-- so it is where a document can hold the plan, and a script its acts
abbrev pub IsReadBack : DrawnScript → Type 0
IsReadBack d = IsPlanWithin d.plan.plan → length d.script ≤ MOST_ACTS → IsReadAs d.plan d.script
