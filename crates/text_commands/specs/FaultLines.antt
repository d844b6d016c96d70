-- The lines of what is wrong with an input, each with its line feed.
use Rattle.std.specs.Prelude.{ℕ, List, ◌++◌, codes, decimal}
use Rattle.rollout_rules.specs.Wan.{Problem}
use Rattle.plan_check.specs.declared.broken.Broken.{Broken}
use Rattle.problem_json.specs.Faults.{fault_text}
use Rattle.problem_json.specs.declared.fault.InputFault.{InputFault}
use Rattle.wan_text.specs.Names.{spot_text}

-- the first place that the grammar refuses, and what is wrong there
abbrev pub input_line : InputFault → List ℕ
input_line e = fault_text e ++ codes "\n"

-- the clause and the stage, and what stands there and is wanted
abbrev pub broken_place : Broken → List ℕ
broken_place b = decimal b.clause ++ codes " at stage " ++ decimal b.stage ++ codes ", "

abbrev pub broken_numbers : Broken → List ℕ
broken_numbers b = codes ": " ++ decimal b.found ++ codes " against " ++ decimal b.wanted ++ codes "\n"

-- the first clause that a plan breaks, where, what stands there and what is wanted
abbrev pub broken_line : Problem → Broken → List ℕ
broken_line p b = codes "input: plan: P" ++ broken_place b ++ spot_text p b.spot ++ broken_numbers b
