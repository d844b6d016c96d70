-- What is written of a rollout that a journal tells of.
use Rattle.std.specs.Prelude.{◌≡◌, ⊤, ℕ, List, [], ◌∷◌, ◌++◌, Some, Result, Ok, Err}
use Rattle.rollout_rules.specs.Wan.{Problem, Rollout}
use Rattle.rollout_rules.specs.History.{History, places_of}
use Rattle.problem_json.specs.Grammar.{problem_in}
use Rattle.problem_json.specs.Writing.{problem_text}
use Rattle.intent_journal.specs.declared.digest.Digest.{Digest}
use Rattle.intent_journal.specs.declared.fault.JournalFault.{JournalFault}
use Rattle.intent_journal.specs.declared.fault.JournalFault.TheVariants as journal
use Rattle.intent_journal.specs.Openings.{found_by}
use Rattle.intent_journal.specs.Recovered.{IsCause}
use Rattle.intent_journal.specs.Verdicts.{verdict}
use Rattle.retarget_plan.specs.Left.{divisor_of}
use Rattle.retarget_plan.specs.Leaving.{IsLeft}
use Rattle.retarget_plan.specs.Standing.{GoesOnFrom, OldSideFits}
use Rattle.retarget_plan.specs.declared.unleft.Unleft.{Unleft as Cause}
use Rattle.retarget_plan.specs.declared.unleft.Unleft.TheVariants as unleft
use Rattle.retarget_service.specs.declared.unwritten.Unwritten.{Unwritten}
use Rattle.retarget_service.specs.declared.unwritten.Unwritten.TheVariants.{Refused, Unleft, Memory}

-- This text is a problem and a line feed, and is read again as that.
pub record IsTextOf (problem : Problem) (text : List ℕ) : Type 0 where
  pub is : text ≡ problem_text problem ++ 10 ∷ []
  pub reads : problem_in (problem_text problem) ≡ Ok problem

-- the text of a problem, or none for lack of memory
abbrev pub WritesProblem : Problem → Result (List ℕ) Unwritten → Type 0
WritesProblem problem (Ok text) = IsTextOf problem text
WritesProblem problem (Err (Refused cause)) = ⊥
WritesProblem problem (Err (Unleft cause)) = ⊥
WritesProblem problem (Err Memory) = ⊤

-- how a fault of a journal over a disk in memory is told, which fails for lack of memory alone, and how one of what is left
abbrev pub refusal_of : JournalFault → Unwritten
refusal_of journal.Disk = Memory
refusal_of journal.Memory = Memory
refusal_of other = Refused other

abbrev pub unleft_of : Cause → Unwritten
unleft_of unleft.Memory = Memory
unleft_of other = Unleft other

-- This text is the problem that a rollout with this history leaves, and a line feed. It is read again as that problem, whose old split is what is settled, and fits.
pub record WritesLeft (r : Rollout) (h : History) (text : List ℕ) : Type 0 where
  pub problem : Problem
  pub left : IsLeft r.problem r.plan h (Ok problem)
  pub goes_on : GoesOnFrom r.problem r.plan (places_of r.problem h) (divisor_of r.problem r.plan (places_of r.problem h)) problem
  pub fits : OldSideFits problem
  pub written : IsTextOf problem text

-- what a rollout with this history comes to, as a text or without one; lack of memory says nothing
abbrev pub WritesOf : Rollout → History → Result (List ℕ) Unwritten → Type 0
WritesOf r h (Ok text) = WritesLeft r h text
WritesOf r h (Err (Refused cause)) = ⊥
WritesOf r h (Err (Unleft cause)) = IsLeft r.problem r.plan h (Err cause)
WritesOf r h (Err Memory) = ⊤

-- The bytes are the journal of a rollout with a history, of which that is so.
pub record WritesFound (r : Rollout) (digest : Digest) (image : List ℕ) (answer : Result (List ℕ) Unwritten) : Type 0 where
  pub history : History
  pub found : found_by r (verdict r digest image) ≡ Some history
  pub writes : WritesOf r history answer

-- the same, or why they aren't
abbrev pub WritesBy : Rollout → Digest → List ℕ → Result (List ℕ) Unwritten → Type 0
WritesBy r digest image (Ok text) = WritesFound r digest image (Ok text)
WritesBy r digest image (Err (Refused cause)) = IsCause cause digest (verdict r digest image)
WritesBy r digest image (Err (Unleft cause)) = WritesFound r digest image (Err (Unleft cause))
WritesBy r digest image (Err Memory) = ⊤
