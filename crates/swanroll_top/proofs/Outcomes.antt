-- How a run ends after a rollout, by what came of it.
use Rattle.std.proofs.Common.{◌≡◌, ◌⊎◌, ℕ, List, Bool, true, false, Option, Result, Ok, Err, refl, sym, ap, ◌∙◌, subst, inl, inr, arith}
use Rattle.rollout_rules.specs.Wan.{Rollout}
use Rattle.rollout_rules.specs.declared.op.OpView.{OpView}
use Rattle.wan_edge.proofs.Faults.{rose_since}
use Rattle.disk_model.specs.Traces.{DiskTrace}
use Rattle.wan_edge.specs.Ports.{PortTrace}
use Rattle.wan_edge.specs.Streams.{Rose}
use Rattle.intent_journal.specs.declared.digest.Digest.{Digest}
use Rattle.intent_journal.specs.declared.fault.JournalFault.{JournalFault}
use Rattle.intent_journal.specs.declared.fault.JournalFault.TheVariants as fault
use Rattle.shared_book.specs.declared.note.Cause.{Cause}
use Rattle.shared_book.specs.declared.note.Cause.TheVariants as cause
use Rattle.shared_book.specs.declared.call_reply.Halt.{Halt}
use Rattle.shared_book.specs.Homes.{homes_of}
use Rattle.shared_book.specs.Opened.{opening_of}
use Rattle.rollout_book.specs.JournaledRounds.{Journaled}
use Rattle.switch_ports.specs.Berths.{FleetPorts}
use Rattle.switch_ports.specs.Homes.{working_homes}
use Rattle.controller_run.specs.Causes.{IsCause}
use Rattle.controller_run.specs.Ran.{EndsRun, Ran}
use Rattle.controller_run.specs.declared.end.RunEnd.{RunEnd}
use Rattle.controller_run.specs.declared.end.RunEnd.TheVariants as run
use Rattle.controller_run.specs.RolloutEnds.{HasRolled}
use Rattle.controller_run.specs.declared.outcome.RunOutcome.{RunOutcome}
use Rattle.text_commands.specs.CommandEnds.{ending_of_journal, status_of}
use Rattle.swanroll_top.specs.Rollouts.{EndsRollout, IsDiskFault, ending_at, ending_of_rollout, ending_of_stop, line_at, line_or_ending, may_end}
use Rattle.swanroll_top.specs.Targets.{BeginsNothing}
use Rattle.text_commands.specs.Runs.{EndsWith, Follows, Gives}
use Rattle.text_commands.specs.declared.command_end.CommandEnd.{CommandEnd}
use Rattle.text_commands.specs.declared.command_end.CommandEnd.TheVariants.{Done, Usage, AboveLimit, Input, NotValid, NoPlan, Unshown, ReadFault, WriteFault, DiskFault, GuestFault, Refused, NotFinished, OutOfMemory}

-- ---- an ending in place of a text

pub gives-follows : (answer : Result (List ℕ) CommandEnd) (e : CommandEnd) (out : Option (List ℕ)) → Gives {A = List ℕ} (Err e) answer → Follows answer e out out
gives-follows answer Done out h = subst (λ r. EndsWith r Done out out) (sym h) (refl, refl)
gives-follows answer Usage out h = subst (λ r. EndsWith r Usage out out) (sym h) (refl, refl)
gives-follows answer AboveLimit out h = subst (λ r. EndsWith r AboveLimit out out) (sym h) (refl, refl)
gives-follows answer (Input f) out h = subst (λ r. EndsWith r (Input f) out out) (sym h) (refl, refl)
gives-follows answer (NotValid p b) out h = subst (λ r. EndsWith r (NotValid p b) out out) (sym h) (refl, refl)
gives-follows answer (NoPlan u) out h = subst (λ r. EndsWith r (NoPlan u) out out) (sym h) (refl, refl)
gives-follows answer (Unshown u) out h = subst (λ r. EndsWith r (Unshown u) out out) (sym h) (refl, refl)
gives-follows answer ReadFault out h = subst (λ r. EndsWith r ReadFault out out) (sym h) (refl, refl)
gives-follows answer WriteFault out h = subst (λ r. EndsWith r WriteFault out out) (sym h) (refl, refl)
gives-follows answer DiskFault out h = subst (λ r. EndsWith r DiskFault out out) (sym h) (refl, refl)
gives-follows answer GuestFault out h = subst (λ r. EndsWith r GuestFault out out) (sym h) (refl, refl)
gives-follows answer (Refused f) out h = subst (λ r. EndsWith r (Refused f) out out) (sym h) (refl, refl)
gives-follows answer (NotFinished u) out h = subst (λ r. EndsWith r (NotFinished u) out out) (sym h) (refl, refl)
gives-follows answer OutOfMemory out h = refl

-- the ending is the one that is given, but for lack of memory
pub given-or-memory : (answer : Result (List ℕ) CommandEnd) (e : CommandEnd) → Gives {A = List ℕ} (Err e) answer → (answer ≡ Err e) ⊎ (e ≡ OutOfMemory)
given-or-memory answer Done h = inl h
given-or-memory answer Usage h = inl h
given-or-memory answer AboveLimit h = inl h
given-or-memory answer (Input f) h = inl h
given-or-memory answer (NotValid p b) h = inl h
given-or-memory answer (NoPlan u) h = inl h
given-or-memory answer (Unshown u) h = inl h
given-or-memory answer ReadFault h = inl h
given-or-memory answer WriteFault h = inl h
given-or-memory answer DiskFault h = inl h
given-or-memory answer GuestFault h = inl h
given-or-memory answer (Refused f) h = inl h
given-or-memory answer (NotFinished u) h = inl h
given-or-memory answer OutOfMemory h = inr refl

-- an ending gives itself
pub gives-own : (x : CommandEnd) → Gives {A = List ℕ} (Err x) (Err x)
gives-own Done = refl
gives-own Usage = refl
gives-own AboveLimit = refl
gives-own (Input f) = refl
gives-own (NotValid p b) = refl
gives-own (NoPlan u) = refl
gives-own (Unshown u) = refl
gives-own ReadFault = refl
gives-own WriteFault = refl
gives-own DiskFault = refl
gives-own GuestFault = refl
gives-own (Refused f) = refl
gives-own (NotFinished u) = refl
gives-own OutOfMemory = tt

-- ---- by the answer

abbrev MayEndSo : Result (List ℕ) CommandEnd → Type 0
MayEndSo (Ok text) = Unit {0}
MayEndSo (Err e) = may_end e ≡ true

pub stop-may : (r : Rollout) (why : Cause) → may_end (ending_of_stop r why) ≡ true
stop-may r (cause.Spent rounds item number) = refl
stop-may r (cause.Port switch) = refl
stop-may r (cause.Above item held begun) = refl
stop-may r (cause.NotMine switch item) = refl
stop-may r (cause.NoAnswer switch byte) = refl
stop-may r cause.Disk = refl
stop-may r cause.Memory = refl

pub journal-may : (why : JournalFault) → may_end (ending_of_journal why) ≡ true
journal-may (fault.NotJournal first) = refl
journal-may (fault.OtherPlan kept wanted) = refl
journal-may (fault.Illegal place) = refl
journal-may fault.BadStart = refl
journal-may fault.Disk = refl
journal-may fault.Memory = refl

may-at : (end : RunEnd) (o : RunOutcome) → may_end (ending_at end o) ≡ true
may-at run.Finished o = refl
may-at run.Held o = refl
may-at (run.Stopped halt) o = stop-may o.plan halt.cause
may-at (run.NoPort switch) o = refl
may-at run.Memory o = refl

pub rollout-may : (o : RunOutcome) → may_end (ending_of_rollout o) ≡ true
rollout-may o = may-at o.end o

line-may : (end : RunEnd) (o : RunOutcome) → MayEndSo (line_at end o)
line-may run.Finished o = tt
line-may run.Held o = refl
line-may (run.Stopped halt) o = stop-may o.plan halt.cause
line-may (run.NoPort switch) o = refl
line-may run.Memory o = refl

pub text-ends : (text : List ℕ) (e : CommandEnd) (out now : Option (List ℕ)) → EndsWith (Ok text) e out now → EndsRollout e out now
text-ends text e out now (inl done) = record { may = ap may_end done.0; silent = λ zero seven. absurd (zero (ap status_of done.0)) }
text-ends text e out now (inr cut) = record { may = ap may_end cut.0; silent = λ zero seven. absurd (seven (ap status_of cut.0)) }

pub err-ends : (o : RunOutcome) (e : CommandEnd) (out : Option (List ℕ)) → Gives {A = List ℕ} (Err e) (line_or_ending o) → EndsRollout e out out
err-ends o e out h = record {
  may = elim (given-or-memory (line_or_ending o) e h) [
    | inl is ↦ subst MayEndSo is (line-may o.end o)
    | inr memory ↦ ap may_end memory
  ];
  silent = λ zero seven. refl;
}

-- where no journal was opened
pub ending-follows : (why : JournalFault) (e : CommandEnd) (out : Option (List ℕ)) → e ≡ ending_of_journal why → Follows (Err (ending_of_journal why)) e out out
ending-follows why e out is = gives-follows (Err (ending_of_journal why)) e out (subst (λ (x : CommandEnd). Gives {A = List ℕ} (Err x) (Err (ending_of_journal why))) (sym is) (gives-own (ending_of_journal why)))

-- ---- a fault of the disk

pub stop-disk : (r : Rollout) (why : Cause) → ending_of_stop r why ≡ DiskFault → why ≡ cause.Disk
stop-disk r (cause.Spent rounds item number) h = absurd cc
stop-disk r (cause.Port switch) h = absurd cc
stop-disk r (cause.Above item held begun) h = absurd cc
stop-disk r (cause.NotMine switch item) h = absurd cc
stop-disk r (cause.NoAnswer switch byte) h = absurd cc
stop-disk r cause.Disk h = refl
stop-disk r cause.Memory h = absurd cc

pub journal-disk : (why : JournalFault) → ending_of_journal why ≡ DiskFault → why ≡ fault.Disk
journal-disk (fault.NotJournal first) h = absurd cc
journal-disk (fault.OtherPlan kept wanted) h = absurd cc
journal-disk (fault.Illegal place) h = absurd cc
journal-disk fault.BadStart h = absurd cc
journal-disk fault.Disk h = refl
journal-disk fault.Memory h = absurd cc

ending-disk : (end : RunEnd) (o : RunOutcome) → ending_at end o ≡ DiskFault → IsDiskFault end
ending-disk run.Finished o h = absurd cc
ending-disk run.Held o h = absurd cc
ending-disk (run.Stopped halt) o h = stop-disk o.plan halt.cause h
ending-disk (run.NoPort switch) o h = absurd cc
ending-disk run.Memory o h = absurd cc

pub rollout-disk : (o : RunOutcome) → ending_of_rollout o ≡ DiskFault → IsDiskFault o.end
rollout-disk o h = ending-disk o.end o h

abbrev pub without_text : CommandEnd → Result (List ℕ) CommandEnd
without_text e = Err e

pub same-ending : (x e : CommandEnd) → without_text x ≡ without_text e → x ≡ e
same-ending x e h = cc

disk-at : (end : RunEnd) (o : RunOutcome) → line_at end o ≡ Err DiskFault → IsDiskFault end
disk-at run.Finished o h = absurd cc
disk-at run.Held o h = absurd cc
disk-at (run.Stopped halt) o h = stop-disk o.plan halt.cause (same-ending (ending_of_stop o.plan halt.cause) DiskFault h)
disk-at (run.NoPort switch) o h = absurd cc
disk-at run.Memory o h = absurd cc

pub err-disk : (o : RunOutcome) (e : CommandEnd) → Gives {A = List ℕ} (Err e) (line_or_ending o) → e ≡ DiskFault → IsDiskFault o.end
err-disk o e h is = disk-at o.end o (subst (λ x. Gives {A = List ℕ} (Err x) (line_or_ending o)) is h)

pub text-not-disk : (text : List ℕ) (e : CommandEnd) (out now : Option (List ℕ)) → EndsWith (Ok text) e out now → e ≡ DiskFault → ⊥
text-not-disk text e out now (inl done) is = let no : Done ≡ DiskFault = sym done.0 ∙ is in cc
text-not-disk text e out now (inr cut) is = let no : WriteFault ≡ DiskFault = sym cut.0 ∙ is in cc

-- ---- no fault of the sink

pub stop-not-cut : (r : Rollout) (why : Cause) → ending_of_stop r why ≡ WriteFault → ⊥
stop-not-cut r (cause.Spent rounds item number) h = cc
stop-not-cut r (cause.Port switch) h = cc
stop-not-cut r (cause.Above item held begun) h = cc
stop-not-cut r (cause.NotMine switch item) h = cc
stop-not-cut r (cause.NoAnswer switch byte) h = cc
stop-not-cut r cause.Disk h = cc
stop-not-cut r cause.Memory h = cc

pub journal-not-cut : (why : JournalFault) → ending_of_journal why ≡ WriteFault → ⊥
journal-not-cut (fault.NotJournal first) h = cc
journal-not-cut (fault.OtherPlan kept wanted) h = cc
journal-not-cut (fault.Illegal place) h = cc
journal-not-cut fault.BadStart h = cc
journal-not-cut fault.Disk h = cc
journal-not-cut fault.Memory h = cc

cut-at : (end : RunEnd) (o : RunOutcome) → ending_at end o ≡ WriteFault → ⊥
cut-at run.Finished o h = cc
cut-at run.Held o h = cc
cut-at (run.Stopped halt) o h = stop-not-cut o.plan halt.cause h
cut-at (run.NoPort switch) o h = cc
cut-at run.Memory o h = cc

pub rollout-not-cut : (o : RunOutcome) → ending_of_rollout o ≡ WriteFault → ⊥
rollout-not-cut o h = cut-at o.end o h

line-cut : (end : RunEnd) (o : RunOutcome) → line_at end o ≡ Err WriteFault → ⊥
line-cut run.Finished o h = cc
line-cut run.Held o h = cc
line-cut (run.Stopped halt) o h = stop-not-cut o.plan halt.cause (same-ending (ending_of_stop o.plan halt.cause) WriteFault h)
line-cut (run.NoPort switch) o h = cc
line-cut run.Memory o h = cc

-- a rollout that gives no line has written nothing
pub err-not-cut : (o : RunOutcome) (e : CommandEnd) → Gives {A = List ℕ} (Err e) (line_or_ending o) → e ≡ WriteFault → ⊥
err-not-cut o e h is = line-cut o.end o (subst (λ x. Gives {A = List ℕ} (Err x) (line_or_ending o)) is h)

-- ---- nor done

pub stop-not-done : (r : Rollout) (why : Cause) → Done ≡ ending_of_stop r why → ⊥
stop-not-done r (cause.Spent rounds item number) h = cc
stop-not-done r (cause.Port switch) h = cc
stop-not-done r (cause.Above item held begun) h = cc
stop-not-done r (cause.NotMine switch item) h = cc
stop-not-done r (cause.NoAnswer switch byte) h = cc
stop-not-done r cause.Disk h = cc
stop-not-done r cause.Memory h = cc

-- ---- a run that was begun

abbrev pub is_ran : RunEnd → Bool
is_ran run.Finished = true
is_ran run.Held = true
is_ran (run.Stopped halt) = true
is_ran (run.NoPort switch) = false
is_ran run.Memory = false

module _ {D P : Type 0} (tell : P → PortTrace) (homes : List ℕ) (opened closed : Journaled D) (before now : FleetPorts P) where
  pub ran-begun : (Ran : RunEnd → Type 0) (end : RunEnd) → is_ran end ≡ true → EndsRun tell homes opened closed before now (Ran end) end → Ran end
  ran-begun Ran run.Finished is ran = ran
  ran-begun Ran run.Held is ran = ran
  ran-begun Ran (run.Stopped halt) is ran = ran
  ran-begun Ran (run.NoPort switch) is ran = absurd cc
  ran-begun Ran run.Memory is ran = absurd cc

  -- and one that wasn't has left the ports as they were
  pub unbegun-nothing : (ran : Type 0) (end : RunEnd) → is_ran end ≡ false → EndsRun tell homes opened closed before now ran end → BeginsNothing tell before now
  unbegun-nothing ran run.Finished isnt ends = absurd cc
  unbegun-nothing ran run.Held isnt ends = absurd cc
  unbegun-nothing ran (run.Stopped halt) isnt ends = absurd cc
  unbegun-nothing ran (run.NoPort switch) isnt ends = inr (opened.rollout.problem, ends.1.earlier, ends.1.given_back)
  unbegun-nothing ran run.Memory isnt ends = elim ends.ports as (λ _. BeginsNothing tell before now) [
    | inl same ↦ inl same
    | inr back ↦ inr (opened.rollout.problem, homes, back)
  ]

-- ---- what a fault of the disk says of the disk

module _ {D P : Type 0} (trace : D → DiskTrace) (tell : P → PortTrace)
    (r : Rollout) (digest : Digest) (policy : OpView → ℕ) (rounds : ℕ) (disk disk_now : D) (before now : FleetPorts P) where
  stopped-failed : (o : RunOutcome) (halt : Halt) → o.end ≡ run.Stopped halt → halt.cause ≡ cause.Disk
      → HasRolled trace tell r digest policy rounds disk before now disk_now o → Rose (trace disk).faults (trace disk_now).faults
  stopped-failed o halt end is rolled =
      let ran = rolled.run in
      let opened = rolled.book in
      let homes = working_homes opened.rollout.problem opened.rollout.plan in
      let opening = opening_of opened policy in
      let ends : Ran trace tell opening (trace opened.disk).moment (trace opened.disk).faults digest.migration rounds homes before (run.Stopped halt) ran.closed now =
      subst (λ (e : RunEnd). EndsRun tell homes opened ran.closed before now (Ran trace tell opening (trace opened.disk).moment (trace opened.disk).faults digest.migration rounds homes before e ran.closed now) e) end ran.ran in
      let held = ends.reason.holds in
      let rose : Rose (trace opened.disk).faults (trace ran.closed.disk).faults =
      subst (λ (why : Cause). IsCause tell opening digest.migration (homes_of opening.rollout.problem) rounds (Rose (trace opened.disk).faults (trace ran.closed.disk).faults) ends.log ends.reason.first why ends.reason.now) is held in
      rose_since (trace disk).faults (trace opened.disk).faults (trace disk_now).faults rolled.opened.on.count (subst (λ (d : D). Rose (trace opened.disk).faults (trace d).faults) (sym ran.back) rose)

  failed-at : (end : RunEnd) (o : RunOutcome) → o.end ≡ end → IsDiskFault end → HasRolled trace tell r digest policy rounds disk before now disk_now o → Rose (trace disk).faults (trace disk_now).faults
  failed-at run.Finished o same is rolled = absurd is
  failed-at run.Held o same is rolled = absurd is
  failed-at (run.Stopped halt) o same is rolled = stopped-failed o halt same is rolled
  failed-at (run.NoPort switch) o same is rolled = absurd is
  failed-at run.Memory o same is rolled = absurd is

  pub disk-failed : (o : RunOutcome) → IsDiskFault o.end → HasRolled trace tell r digest policy rounds disk before now disk_now o → Rose (trace disk).faults (trace disk_now).faults
  disk-failed o is rolled = failed-at o.end o refl is rolled
