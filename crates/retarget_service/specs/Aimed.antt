-- The problem of another aim, of a rollout that a journal tells of.
use Rattle.std.specs.Prelude.{◌≡◌, ⊤, ℕ, List, Some, Result, Ok, Err}
use Rattle.rollout_rules.specs.Wan.{Problem, Rollout}
use Rattle.rollout_rules.specs.History.{History, places_of}
use Rattle.intent_journal.specs.declared.digest.Digest.{Digest}
use Rattle.intent_journal.specs.Openings.{found_by}
use Rattle.intent_journal.specs.Recovered.{IsCause}
use Rattle.intent_journal.specs.Verdicts.{verdict}
use Rattle.retarget_plan.specs.Aiming.{IsAimed, KeepsCapacities, StandsAt}
use Rattle.retarget_plan.specs.Left.{divisor_of}
use Rattle.retarget_plan.specs.Standing.{OldSideFits}
use Rattle.retarget_plan.specs.declared.aim.Aim.{Aim}
use Rattle.retarget_service.specs.declared.unwritten.Unwritten.{Unwritten}
use Rattle.retarget_service.specs.declared.unwritten.Unwritten.TheVariants.{Refused, Unleft, Memory}

-- This is the problem of an aim from where a rollout with this history stands: its old split is what is settled, and fits where no link is given less than it had.
pub record AimsFrom (r : Rollout) (h : History) (aim : Aim) (problem : Problem) : Type 0 where
  pub aimed : IsAimed r.problem r.plan h aim (Ok problem)
  pub stands : StandsAt r.problem r.plan (places_of r.problem h) (divisor_of r.problem r.plan (places_of r.problem h)) problem
  pub fits : KeepsCapacities r.problem aim → OldSideFits problem

-- what a rollout with this history comes to: such a problem, or why there is none; lack of memory says nothing
abbrev pub MakesOf : Rollout → History → Aim → Result Problem Unwritten → Type 0
MakesOf r h aim (Ok problem) = AimsFrom r h aim problem
MakesOf r h aim (Err (Refused cause)) = ⊥
MakesOf r h aim (Err (Unleft cause)) = IsAimed r.problem r.plan h aim (Err cause)
MakesOf r h aim (Err Memory) = ⊤

-- The bytes are the journal of a rollout with a history, of which that is so.
pub record MakesFound (r : Rollout) (digest : Digest) (image : List ℕ) (aim : Aim) (answer : Result Problem Unwritten) : Type 0 where
  pub history : History
  pub found : found_by r (verdict r digest image) ≡ Some history
  pub makes : MakesOf r history aim answer

-- the same, or why they aren't
abbrev pub MakesBy : Rollout → Digest → List ℕ → Aim → Result Problem Unwritten → Type 0
MakesBy r digest image aim (Ok problem) = MakesFound r digest image aim (Ok problem)
MakesBy r digest image aim (Err (Refused cause)) = IsCause cause digest (verdict r digest image)
MakesBy r digest image aim (Err (Unleft cause)) = MakesFound r digest image aim (Err (Unleft cause))
MakesBy r digest image aim (Err Memory) = ⊤
