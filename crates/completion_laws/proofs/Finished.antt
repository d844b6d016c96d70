-- A run over ports that are ready finishes, or ends for lack of memory.
use Rattle.std.proofs.Common.{◌≡◌, ℕ, true, List, Option}
use Rattle.port_session.specs.Sessions.{SessionView}
use Rattle.shared_book.specs.declared.note.Cause.{Cause}
use Rattle.shared_book.specs.declared.note.Cause.TheVariants as cause
use Rattle.shared_book.specs.declared.note.Written.{Written}
use Rattle.shared_book.specs.Histories.{Opening}
use Rattle.shared_book.specs.Legal.{is_legal_shared}
use Rattle.shared_book.specs.Homes.{homes_of}
use Rattle.wan_edge.specs.Ports.{PortTrace}
use Rattle.controller_run.specs.Causes.{HasCause, IfStopped}
use Rattle.controller_run.specs.Runs.{IsRunEnd}
use Rattle.controller_run.specs.declared.end.RunEnd.{RunEnd}
use Rattle.controller_run.specs.declared.end.RunEnd.TheVariants as run
use Rattle.completion_laws.specs.Faults.{IsExcused, IsNoFault, IsWithoutFault}
use Rattle.completion_laws.specs.Finishing.{FinishesOrIsExcused, FinishesOrWants, IsOfWorkers, IsSure, IsWant}
use Rattle.completion_laws.proofs.Excused.{ends-excused}
use Rattle.completion_laws.proofs.NoFaults.{no-fault}

-- an excuse that is no fault is lack of memory
pub only-want : (why : Cause) → IsExcused why → IsNoFault why → IsWant why
only-want (cause.Spent given item number) excused no_fault = excused
only-want (cause.Port switch) excused no_fault = no_fault
only-want (cause.Above item held begun) excused no_fault = excused
only-want (cause.NotMine switch item) excused no_fault = excused
only-want (cause.NoAnswer switch byte) excused no_fault = excused
only-want cause.Disk excused no_fault = no_fault
only-want cause.Memory excused no_fault = tt

module _ {P : Type 0} (tell : P → PortTrace) (o : Opening) (migration rounds : ℕ) (failed : Type 0) (opened : List (SessionView P)) (kept : ℕ → Option P) (log : List Written) (without : IsWithoutFault tell failed opened kept) where
  -- an end that is excused, where no fault stopped the run
  pub wants : (end : RunEnd) → FinishesOrIsExcused end → IfStopped end (λ halt. HasCause tell o migration (homes_of o.rollout.problem) rounds failed log opened kept halt.cause) → FinishesOrWants end
  wants run.Finished excused reason = tt
  wants run.Held excused reason = excused
  wants (run.Stopped halt) excused reason = only-want halt.cause excused (no-fault tell failed opened kept without o migration (homes_of o.rollout.problem) rounds log halt.cause reason)
  wants (run.NoPort switch) excused reason = excused
  wants run.Memory excused reason = tt

  pub finishes : is_legal_shared o log ≡ true → IsOfWorkers tell o migration (homes_of o.rollout.problem) rounds opened log → IsSure tell o migration (homes_of o.rollout.problem) rounds opened
      → (end : RunEnd) → IsRunEnd o log end → IfStopped end (λ halt. HasCause tell o migration (homes_of o.rollout.problem) rounds failed log opened kept halt.cause) → FinishesOrWants end
  finishes legal one sure end ends reason = wants end (ends-excused tell o migration rounds opened log legal one sure end ends) reason
