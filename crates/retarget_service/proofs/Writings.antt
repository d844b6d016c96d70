-- What is written follows from what was found.
use Rattle.std.proofs.Common.{◌≡◌, ℕ, List, [], Some, Result, Ok, Err, sym, ap, ◌∙◌, subst}
use Rattle.rollout_rules.specs.Wan.{Problem, Rollout}
use Rattle.rollout_rules.specs.History.{History, from_nothing, places_of}
use Rattle.dependency_graph.specs.Graph.{Followed}
use Rattle.disk_model.specs.Memory.{Storing}
use Rattle.intent_journal.specs.declared.digest.Digest.{Digest}
use Rattle.intent_journal.specs.declared.fault.JournalFault.{JournalFault}
use Rattle.intent_journal.specs.declared.fault.JournalFault.TheVariants as journal
use Rattle.intent_journal.specs.Openings.{found_by, unbegun}
use Rattle.intent_journal.specs.Recovered.{IsCause}
use Rattle.intent_journal.specs.Verdicts.{verdict}
use Rattle.rollout_report.specs.Journals.{digest_for}
use Rattle.retarget_plan.specs.Left.{divisor_of}
use Rattle.retarget_plan.specs.Leaving.{IsLeft}
use Rattle.retarget_plan.specs.Standing.{GoesOnFrom, OldSideFits}
use Rattle.retarget_plan.specs.declared.unleft.Unleft.{Unleft as Cause}
use Rattle.retarget_plan.specs.declared.unleft.Unleft.TheVariants as unleft
use Rattle.retarget_service.specs.Written.{WritesBy, WritesOf, WritesProblem, refusal_of, unleft_of}
use Rattle.retarget_service.specs.declared.unwritten.Unwritten.{Unwritten}
use Rattle.retarget_service.specs.declared.unwritten.Unwritten.TheVariants.{Refused, Unleft, Memory}

-- ---- a problem that is left

module _ (r : Rollout) (h : History) where
  pub written-left : (problem : Problem) (answer : Result (List ℕ) Unwritten) → IsLeft r.problem r.plan h (Ok problem) → GoesOnFrom r.problem r.plan (places_of r.problem h) (divisor_of r.problem r.plan (places_of r.problem h)) problem → OldSideFits problem
      → WritesProblem problem answer → WritesOf r h answer
  written-left problem (Ok text) left goes fits written = record { problem = problem; left = left; goes_on = goes; fits = fits; written = written }
  written-left problem (Err (Refused cause)) left goes fits written = absurd written
  written-left problem (Err (Unleft cause)) left goes fits written = absurd written
  written-left problem (Err Memory) left goes fits written = tt

  by_cause : (cause : Cause) → IsLeft r.problem r.plan h (Err cause) → WritesOf r h (Err (unleft_of cause))
  by_cause (unleft.Flying item operation) is = is
  by_cause (unleft.Partly tunnel) is = is
  by_cause (unleft.TooLarge row place n) is = is
  by_cause unleft.Memory is = tt

  pub nothing-left : (cause : Cause) (told : Unwritten) → told ≡ unleft_of cause → IsLeft r.problem r.plan h (Err cause) → WritesOf r h (Err told)
  nothing-left cause told is left = subst (λ (u : Unwritten). WritesOf r h (Err u)) (sym is) (by_cause cause left)

-- ---- a journal that was found

module _ (r : Rollout) (digest : Digest) (image : List ℕ) where
  found-writes : (h : History) (answer : Result (List ℕ) Unwritten) → found_by r (verdict r digest image) ≡ Some h → WritesOf r h answer → WritesBy r digest image answer
  found-writes h (Ok text) found writes = record { history = h; found = found; writes = writes }
  found-writes h (Err (Refused cause)) found writes = absurd writes
  found-writes h (Err (Unleft cause)) found writes = record { history = h; found = found; writes = writes }
  found-writes h (Err Memory) found writes = tt

  pub opened-writes : (disk : Storing) (new : Rollout) (h : History) (answer : Result (List ℕ) Unwritten) → disk.timeline.medium.bytes ≡ image → new ≡ r → found_by r (verdict r digest disk.timeline.medium.bytes) ≡ Some h → WritesOf new h answer
      → WritesBy r digest image answer
  opened-writes disk new h answer bytes same found writes =
      found-writes h answer (subst (λ (b : List ℕ). found_by r (verdict r digest b) ≡ Some h) bytes found) (subst (λ (x : Rollout). WritesOf x h answer) same writes)

  by_refusal : (cause : JournalFault) → IsCause cause digest (verdict r digest image) → WritesBy r digest image (Err (refusal_of cause))
  by_refusal journal.Disk is = tt
  by_refusal journal.Memory is = tt
  by_refusal (journal.NotJournal first) is = is
  by_refusal (journal.OtherPlan kept wanted) is = is
  by_refusal journal.BadStart is = is
  by_refusal (journal.Illegal place) is = is

  pub refused-writes : (disk : Storing) (cause : JournalFault) (told : Unwritten) → disk.timeline.medium.bytes ≡ image → told ≡ refusal_of cause → IsCause cause digest (verdict r digest disk.timeline.medium.bytes) → WritesBy r digest image (Err told)
  refused-writes disk cause told bytes is caused =
      subst (λ (u : Unwritten). WritesBy r digest image (Err u)) (sym is) (by_refusal cause (subst (λ (b : List ℕ). IsCause cause digest (verdict r digest b)) bytes caused))

-- a rollout that is known as a plan's
pub known-writes : (r : Rollout) (m : ℕ) (image : List ℕ) (graph : Followed) (digest : Digest) (answer : Result (List ℕ) Unwritten) → graph ≡ unbegun r → digest ≡ digest_for r m → WritesBy graph.rollout digest image answer
    → WritesBy r (digest_for r m) image answer
known-writes r m image graph digest answer is known writes =
    subst (λ (d : Digest). WritesBy r d image answer) known (subst (λ (x : Followed). WritesBy x.rollout digest image answer) is writes)

pub known-empty : (r : Rollout) (graph : Followed) → graph ≡ unbegun r → graph.history ≡ from_nothing graph.rollout.problem []
known-empty r graph is = ap (λ (x : Followed). x.history) is ∙ sym (ap (λ (x : Followed). from_nothing x.rollout.problem []) is)
