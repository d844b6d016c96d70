-- The inputs that a command doesn't refuse: within the limit, what it reads, with a valid plan, and with nothing said of it that isn't shown.
use Rattle.std.specs.Prelude.{◌≡◌, ℕ, ◌≤◌, Bool, true, List, length, Option, Some, None, Ok}
use Rattle.rollout_rules.specs.Wan.{Problem, Rollout}
use Rattle.rollout_rules.specs.declared.limits.TheConstants.{MOST_INPUT}
use Rattle.problem_json.specs.Grammar.{problem_in}
use Rattle.problem_json.specs.GrammarDocuments.{DocumentRead, ScriptedRead, document_in, scripted_in}
use Rattle.problem_json.specs.GrammarLeast.{claimed_in}
use Rattle.problem_json.specs.declared.claim.Claim.{Claim}
use Rattle.problem_json.specs.declared.claim.Claimed.{Claimed}
use Rattle.text_commands.specs.Answers.{is_shown}
use Rattle.text_commands.specs.Safety.{IsValid}
use Rattle.text_commands.specs.Words.{TextAsked, a_plan, a_check, the_loads, the_way_back, a_rehearsal, a_script, the_explanation, the_least}

pub record IsProblem (input : List ℕ) : Type 0 where
  pub within : length input ≤ MOST_INPUT
  pub problem : Problem
  pub read : problem_in input ≡ Ok problem

pub record IsValidDocument (input : List ℕ) : Type 0 where
  pub within : length input ≤ MOST_INPUT
  pub document : DocumentRead
  pub read : document_in input ≡ Ok document
  pub valid : IsValid document.problem document.plan

pub record IsValidScript (input : List ℕ) : Type 0 where
  pub within : length input ≤ MOST_INPUT
  pub scripted : ScriptedRead
  pub read : scripted_in input ≡ Ok scripted
  pub valid : IsValid scripted.document.problem scripted.document.plan

-- whether what is said of a rollout is shown, if anything is said
abbrev pub is_as_said : Rollout → Option Claim → Bool
is_as_said o None = true
is_as_said o (Some claim) = is_shown o claim

pub record IsShownDocument (input : List ℕ) : Type 0 where
  pub within : length input ≤ MOST_INPUT
  pub claimed : Claimed
  pub read : claimed_in input ≡ Ok claimed
  pub valid : IsValid claimed.document.problem claimed.document.plan
  pub shown : is_as_said (record { problem = claimed.document.problem; plan = claimed.document.plan }) claimed.claim ≡ true

abbrev pub IsTaken : TextAsked → List ℕ → Type 0
IsTaken (a_plan planner) input = IsProblem input
IsTaken a_check input = IsShownDocument input
IsTaken the_loads input = IsValidDocument input
IsTaken the_way_back input = IsValidDocument input
IsTaken the_explanation input = IsValidDocument input
IsTaken the_least input = IsProblem input
IsTaken (a_rehearsal policy) input = IsValidScript input
IsTaken (a_script shape policy) input = IsValidDocument input
