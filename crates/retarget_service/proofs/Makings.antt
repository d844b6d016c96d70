-- What is made follows from what was found.
use Rattle.std.proofs.Common.{◌≡◌, ℕ, List, Some, Result, Ok, Err, sym, subst}
use Rattle.rollout_rules.specs.Wan.{Problem, Rollout}
use Rattle.rollout_rules.specs.History.{History}
use Rattle.dependency_graph.specs.Graph.{Followed}
use Rattle.disk_model.specs.Memory.{Storing}
use Rattle.intent_journal.specs.declared.digest.Digest.{Digest}
use Rattle.intent_journal.specs.declared.fault.JournalFault.{JournalFault}
use Rattle.intent_journal.specs.declared.fault.JournalFault.TheVariants as journal
use Rattle.intent_journal.specs.Openings.{found_by, unbegun}
use Rattle.intent_journal.specs.Recovered.{IsCause}
use Rattle.intent_journal.specs.Verdicts.{verdict}
use Rattle.rollout_report.specs.Journals.{digest_for}
use Rattle.retarget_plan.specs.Aiming.{IsAimed}
use Rattle.retarget_plan.specs.declared.aim.Aim.{Aim}
use Rattle.retarget_plan.specs.declared.unleft.Unleft.{Unleft as Cause}
use Rattle.retarget_plan.specs.declared.unleft.Unleft.TheVariants as unleft
use Rattle.retarget_service.specs.Aimed.{MakesBy, MakesOf}
use Rattle.retarget_service.specs.Written.{refusal_of, unleft_of}
use Rattle.retarget_service.specs.declared.unwritten.Unwritten.{Unwritten}
use Rattle.retarget_service.specs.declared.unwritten.Unwritten.TheVariants.{Refused, Unleft, Memory}

module _ (r : Rollout) (h : History) (aim : Aim) where
  by_cause : (cause : Cause) → IsAimed r.problem r.plan h aim (Err cause) → MakesOf r h aim (Err (unleft_of cause))
  by_cause (unleft.Flying item operation) is = is
  by_cause (unleft.Partly tunnel) is = is
  by_cause (unleft.TooLarge row place n) is = is
  by_cause unleft.Memory is = tt

  pub nothing-made : (cause : Cause) (told : Unwritten) → told ≡ unleft_of cause → IsAimed r.problem r.plan h aim (Err cause) → MakesOf r h aim (Err told)
  nothing-made cause told is left = subst (λ (u : Unwritten). MakesOf r h aim (Err u)) (sym is) (by_cause cause left)

module _ (r : Rollout) (digest : Digest) (image : List ℕ) (aim : Aim) where
  found-makes : (h : History) (answer : Result Problem Unwritten) → found_by r (verdict r digest image) ≡ Some h → MakesOf r h aim answer → MakesBy r digest image aim answer
  found-makes h (Ok problem) found makes = record { history = h; found = found; makes = makes }
  found-makes h (Err (Refused cause)) found makes = absurd makes
  found-makes h (Err (Unleft cause)) found makes = record { history = h; found = found; makes = makes }
  found-makes h (Err Memory) found makes = tt

  pub opened-makes : (disk : Storing) (new : Rollout) (h : History) (answer : Result Problem Unwritten) → disk.timeline.medium.bytes ≡ image → new ≡ r → found_by r (verdict r digest disk.timeline.medium.bytes) ≡ Some h
      → MakesOf new h aim answer → MakesBy r digest image aim answer
  opened-makes disk new h answer bytes same found makes =
      found-makes h answer (subst (λ (b : List ℕ). found_by r (verdict r digest b) ≡ Some h) bytes found) (subst (λ (x : Rollout). MakesOf x h aim answer) same makes)

  by_refusal : (cause : JournalFault) → IsCause cause digest (verdict r digest image) → MakesBy r digest image aim (Err (refusal_of cause))
  by_refusal journal.Disk is = tt
  by_refusal journal.Memory is = tt
  by_refusal (journal.NotJournal first) is = is
  by_refusal (journal.OtherPlan kept wanted) is = is
  by_refusal journal.BadStart is = is
  by_refusal (journal.Illegal place) is = is

  pub refused-makes : (disk : Storing) (cause : JournalFault) (told : Unwritten) → disk.timeline.medium.bytes ≡ image → told ≡ refusal_of cause → IsCause cause digest (verdict r digest disk.timeline.medium.bytes)
      → MakesBy r digest image aim (Err told)
  refused-makes disk cause told bytes is caused =
      subst (λ (u : Unwritten). MakesBy r digest image aim (Err u)) (sym is) (by_refusal cause (subst (λ (b : List ℕ). IsCause cause digest (verdict r digest b)) bytes caused))

-- a rollout that is known as a plan's
pub known-makes : (r : Rollout) (m : ℕ) (image : List ℕ) (aim : Aim) (graph : Followed) (digest : Digest) (answer : Result Problem Unwritten) → graph ≡ unbegun r → digest ≡ digest_for r m → MakesBy graph.rollout digest image aim answer
    → MakesBy r (digest_for r m) image aim answer
known-makes r m image aim graph digest answer is known makes =
    subst (λ (d : Digest). MakesBy r d image aim answer) known (subst (λ (x : Followed). MakesBy x.rollout digest image aim answer) is makes)
