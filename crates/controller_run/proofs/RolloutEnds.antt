-- What a run has come to, by how it ended.
use Rattle.std.proofs.Common.{◌≡◌, ◌∙◌, ℕ, List, length, refl, sym, subst, ap, ap₂}
use Rattle.rollout_rules.specs.Wan.{Rollout}
use Rattle.rollout_rules.specs.declared.op.OpView.{OpView}
use Rattle.disk_model.specs.Traces.{DiskTrace}
use Rattle.intent_journal.specs.Openings.{IsOpenedFrom}
use Rattle.intent_journal.specs.declared.digest.Digest.{Digest}
use Rattle.wan_edge.specs.Ports.{PortTrace}
use Rattle.rollout_book.specs.JournaledRounds.{Journaled, IsNewBook, graph_of}
use Rattle.shared_book.specs.Images.{StaysOpened}
use Rattle.shared_book.specs.Opened.{opening_of}
use Rattle.switch_ports.specs.Berths.{FleetPorts}
use Rattle.switch_ports.specs.Homes.{working_homes}
use Rattle.rollout_report.specs.Journals.{digest_for}
use Rattle.controller_run.specs.Ran.{EndsRun, Ran}
use Rattle.controller_run.specs.declared.end.RunEnd.{RunEnd}
use Rattle.controller_run.specs.declared.end.RunEnd.TheVariants as run
use Rattle.controller_run.specs.declared.outcome.RunOutcome.{RunOutcome}
use Rattle.controller_run.specs.RolloutEnds.{HasRolled, HasRun, outcome_behind, outcome_for}

-- the book that a run has left is of the rollout that was opened, and has as many entries found
abbrev IsOf : {D : Type 0} → Journaled D → Journaled D → Type 0
IsOf opened closed = (closed.rollout ≡ opened.rollout) × (closed.found ≡ length opened.history.entries)

module _ {D : Type 0} (opened closed : Journaled D) (found : opened.found ≡ length opened.history.entries) where
  never-of : closed ≡ opened → IsOf opened closed
  never-of same = (ap (λ (b : Journaled D). b.rollout) same, ap (λ (b : Journaled D). b.found) same ∙ found)

  of-opened : {P : Type 0} (tell : P → PortTrace) (homes : List ℕ) (before now : FleetPorts P) (ran : Type 0) (end : RunEnd)
      → (ran → IsOf opened closed) → EndsRun tell homes opened closed before now ran end → IsOf opened closed
  of-opened tell homes before now ran run.Finished of ends = of ends
  of-opened tell homes before now ran run.Held of ends = of ends
  of-opened tell homes before now ran (run.Stopped halt) of ends = of ends
  of-opened tell homes before now ran (run.NoPort switch) of ends = never-of ends.0
  of-opened tell homes before now ran run.Memory of ends = never-of ends.same

-- so what is told of the book that a run has left is what is told of the rollout that was opened
pub run-from : {D P : Type 0} (trace : D → DiskTrace) (tell : P → PortTrace) (policy : OpView → ℕ) (migration rounds : ℕ) (opened closed : Journaled D) (before now : FleetPorts P) (disk : D) (end : RunEnd) (o : RunOutcome)
    → opened.found ≡ length opened.history.entries
    → EndsRun tell (working_homes opened.rollout.problem opened.rollout.plan) opened closed before now
    (Ran trace tell (opening_of opened policy) (trace opened.disk).moment (trace opened.disk).faults migration rounds (working_homes opened.rollout.problem opened.rollout.plan) before end closed now) end
    → o ≡ outcome_behind closed end → disk ≡ closed.disk → StaysOpened trace (opening_of opened policy) (trace opened.disk) closed.disk
    → HasRun trace tell policy migration rounds opened before now disk o
run-from {D = D} trace tell policy migration rounds opened closed before now disk end o found ends is back stays =
    let homes = working_homes opened.rollout.problem opened.rollout.plan in
    let of = of-opened opened closed found tell homes before now (Ran trace tell (opening_of opened policy) (trace opened.disk).moment (trace opened.disk).faults migration rounds homes before end closed now) end
    (λ ran. (ran.closed.rollout, ran.closed.count)) ends in
    subst (λ (x : RunOutcome). HasRun trace tell policy migration rounds opened before now disk x) (sym is) (record {
      closed = closed;
      ran = ends;
      tells = ap₂ (λ (r : Rollout) (n : ℕ). outcome_for r n closed.history end) of.0 of.1;
      back = back;
      stays = subst (λ (d : D). StaysOpened trace (opening_of opened policy) (trace opened.disk) d) (sym back) stays;
    })

-- and it ended so
pub end-behind : {D : Type 0} (closed : Journaled D) (end : RunEnd) (o : RunOutcome) → o ≡ outcome_behind closed end → o.end ≡ end
end-behind closed end o is = ap (λ (x : RunOutcome). x.end) is

-- the migration by which a plan's journal is known
pub migration-is : (r : Rollout) (migration : ℕ) → (digest_for r migration).migration ≡ migration
unfolding digest_for
migration-is r migration = refl

-- an opening and a run of what was opened are a rollout
pub rolled-from : {D P : Type 0} (trace : D → DiskTrace) (tell : P → PortTrace) (r : Rollout) (digest : Digest) (policy own : OpView → ℕ) (migration rounds : ℕ) (disk : D) (book : Journaled D) (before now : FleetPorts P) (disk_now : D) (o : RunOutcome)
    → own ≡ policy → digest.migration ≡ migration → IsOpenedFrom trace r digest disk (graph_of book) book.entries book.disk → IsNewBook trace book
    → HasRun trace tell own migration rounds book before now disk_now o
    → HasRolled trace tell r digest policy rounds disk before now disk_now o
rolled-from trace tell r digest policy own migration rounds disk book before now disk_now o same number opened new ran = record {
  book = book;
  opened = opened;
  new = new;
  run = subst (λ m. HasRun trace tell policy m rounds book before now disk_now o) (sym number)
      (subst (λ p. HasRun trace tell p migration rounds book before now disk_now o) same ran);
}
