-- An answer that is ready to be written: its text, and that what was looked up for it is that of its plan.
use Rattle.std.specs.Prelude.{◌≡◌, ℕ, List, Option, Some, None}
use Rattle.plan_texts.specs.LookedUp.{AreLoadsOf, IsLookupOf}
use Rattle.wan_text.specs.Named.{AreNamesOf}
use Rattle.problem_json.specs.WritingLeast.{claim_text}
use Rattle.text_commands.specs.Answers.{explanation_of, loads_of, rollout_text}
use Rattle.sim_run.specs.declared.draft.DrawnScript.{DrawnScript}
use Rattle.text_commands.specs.Drawn.{script_drawn}
use Rattle.text_commands.specs.Shown.{plan_shown}
use Rattle.text_commands.specs.declared.ready.Ready.{Ready}
use Rattle.text_commands.specs.declared.ready.Ready.TheVariants.{Made, Document, Loads, Explained, Shown, Rehearsed}

abbrev pub ready_text : Ready → List ℕ
ready_text (Made text) = text
ready_text (Document names o) = rollout_text o
ready_text (Loads rows o) = loads_of o
ready_text (Explained lookup o) = explanation_of o
ready_text (Shown names said s) = plan_shown s
ready_text (Rehearsed names d) = script_drawn d

-- the script that was drawn, where one was
abbrev pub drawn_ready : Ready → Option DrawnScript
drawn_ready (Made text) = None
drawn_ready (Document names o) = None
drawn_ready (Loads rows o) = None
drawn_ready (Explained lookup o) = None
drawn_ready (Shown names said s) = None
drawn_ready (Rehearsed names d) = Some d

abbrev pub IsReady : Ready → Type 0
IsReady (Made text) = Unit {0}
IsReady (Document names o) = AreNamesOf names o.problem
IsReady (Loads rows o) = AreLoadsOf rows o
IsReady (Explained lookup o) = IsLookupOf lookup o
IsReady (Shown names said s) = AreNamesOf names s.plan.problem × (said ≡ claim_text s.claim)
IsReady (Rehearsed names d) = AreNamesOf names d.plan.problem
