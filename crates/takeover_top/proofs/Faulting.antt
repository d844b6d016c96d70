-- A takeover ends for a fault only where its object counted one.
use Rattle.std.proofs.Common.{◌≡◌, ◌⊎◌, ℕ, List, Bool, true, false, Option, Result, Ok, Err, refl, sym, ap, ◌∙◌, subst, inl, inr, arith}
use Rattle.std.specs.Prelude.{IsErrOf}
use Rattle.lists.proofs.Conditions.{not_both}
use Rattle.rollout_rules.specs.Wan.{Rollout}
use Rattle.rollout_rules.specs.declared.op.OpView.{OpView}
use Rattle.wan_edge.specs.Ports.{PortTrace}
use Rattle.wan_edge.specs.Streams.{Rose, SinkTrace, SourceTrace}
use Rattle.wan_edge.proofs.Faults.{rose_since}
use Rattle.disk_model.specs.Traces.{DiskTrace}
use Rattle.dependency_graph.specs.declared.start_fault.StartFault.{StartFault}
use Rattle.dependency_graph.specs.declared.start_fault.StartFault.TheVariants as fault
use Rattle.fence_takeover.specs.declared.end.FenceEnd.{FenceEnd}
use Rattle.fence_takeover.specs.declared.end.FenceEnd.TheVariants as fence
use Rattle.intent_journal.specs.declared.fault.JournalFault.{JournalFault}
use Rattle.intent_journal.specs.declared.fault.JournalFault.TheVariants as journal
use Rattle.controller_run.specs.declared.running.Limits.{Limits}
use Rattle.controller_run.specs.declared.end.RunEnd.{RunEnd}
use Rattle.controller_run.specs.declared.end.RunEnd.TheVariants as run
use Rattle.controller_run.specs.declared.outcome.RunOutcome.{RunOutcome}
use Rattle.fence_takeover.specs.Beginnings.{Begins, OpensAt}
use Rattle.fence_takeover.specs.declared.begun.NotBegun.{NotBegun}
use Rattle.fence_takeover.specs.declared.begun.NotBegun.TheVariants as why
use Rattle.text_commands.specs.Answers.{rollout_in}
use Rattle.text_commands.specs.CommandEnds.{ending_of_journal, status_of}
use Rattle.text_commands.specs.Reading.{IsCut, ReadsInput}
use Rattle.text_commands.specs.Runs.{EndsWith, Follows, Gives}
use Rattle.text_commands.specs.declared.command_end.CommandEnd.{CommandEnd}
use Rattle.text_commands.specs.declared.command_end.CommandEnd.TheVariants.{ReadFault, WriteFault, DiskFault}
use Rattle.text_commands.proofs.Answering.{is_answer, rollout-answers}
use Rattle.text_commands.proofs.Statuses.{is-disk-fault, is-read-fault, is-write-fault}
use Rattle.retarget_service.specs.JournalRoom.{journal_room}
use Rattle.swanroll_top.specs.Rollouts.{FleetSeen, by_answer, may_end}
use Rattle.swanroll_top.proofs.Outcomes.{journal-disk, journal-may, stop-may}
use Rattle.takeover_top.specs.Endings.{Told, ending_of_fence, ending_of_not_begun, ending_of_start, taken_at, taken_or_ending}
use Rattle.takeover_top.specs.Takings.{ByBeginning, ByInput, ByRollout, Takes, TakesRollout}
use Rattle.takeover_top.specs.declared.ending.TakeoverEnding.{TakeoverEnding}
use Rattle.takeover_top.specs.declared.ending.TakeoverEnding.TheVariants.{Ended, Later, Unsound}
use Rattle.takeover_top.proofs.Promising.{IsEndedSo, memory-status, own-ending}

-- ---- by the status

pub told-own : (ending : TakeoverEnding) (status : ℕ) (before now : SinkTrace) → Told ending status before now → (n : ℕ) → (n ≡ 11 → ⊥) → (n ≡ 12 → ⊥) → (n ≡ 13 → ⊥) → status ≡ n → IsEndedSo ending n
told-own (Ended e) status before now told n no11 no12 no13 is = record {
  own = e;
  is = refl;
  status_is = elim told.is [
    | inl same ↦ ap status_of (sym same) ∙ (sym told.is_status ∙ is)
    | inr memory ↦ absurd (no12 (sym is ∙ (told.is_status ∙ ap status_of memory.0)))
  ];
}
told-own (Later item migration) status before now (inl line) n no11 no12 no13 is = absurd (no11 (sym is ∙ line.0))
told-own (Later item migration) status before now (inr memory) n no11 no12 no13 is = absurd (no12 (sym is ∙ memory-status before now status memory))
told-own (Unsound r f) status before now (inl line) n no11 no12 no13 is = absurd (no13 (sym is ∙ line.0))
told-own (Unsound r f) status before now (inr memory) n no11 no12 no13 is = absurd (no12 (sym is ∙ memory-status before now status memory))

-- ---- how it may end after a rollout that was asked about

abbrev may : TakeoverEnding → Bool
may (Ended e) = may_end e
may (Later item migration) = true
may (Unsound r f) = true

abbrev is_write : TakeoverEnding → Bool
is_write (Ended WriteFault) = true
is_write ending = false

fence-may : (r : Rollout) (end : FenceEnd) → may (ending_of_fence r end) ≡ true
fence-may r (fence.NoPort w) = refl
fence-may r (fence.Port w) = refl
fence-may r (fence.Above item held count) = refl
fence-may r (fence.Later item migration) = refl
fence-may r (fence.NotMine w item) = refl
fence-may r (fence.NoAnswer w byte) = refl
fence-may r (fence.Spent rounds item) = refl
fence-may r fence.Memory = refl

start-may : (r : Rollout) (f : StartFault) → may (ending_of_start r f) ≡ true
start-may r (fault.Above item held count) = refl
start-may r (fault.Need item number) = refl
start-may r (fault.Room stage spot found wanted) = refl
start-may r fault.Memory = refl

begun-may : (cause : NotBegun) → may (ending_of_not_begun cause) ≡ true
begun-may (why.Fence r end) = fence-may r end
begun-may (why.Start r f) = start-may r f
begun-may (why.Journal cause) = journal-may cause

fence-write : (r : Rollout) (end : FenceEnd) → is_write (ending_of_fence r end) ≡ false
fence-write r (fence.NoPort w) = refl
fence-write r (fence.Port w) = refl
fence-write r (fence.Above item held count) = refl
fence-write r (fence.Later item migration) = refl
fence-write r (fence.NotMine w item) = refl
fence-write r (fence.NoAnswer w byte) = refl
fence-write r (fence.Spent rounds item) = refl
fence-write r fence.Memory = refl

start-write : (r : Rollout) (f : StartFault) → is_write (ending_of_start r f) ≡ false
start-write r (fault.Above item held count) = refl
start-write r (fault.Need item number) = refl
start-write r (fault.Room stage spot found wanted) = refl
start-write r fault.Memory = refl

journal-write : (cause : JournalFault) → is_write (Ended (ending_of_journal cause)) ≡ false
journal-write (journal.NotJournal first) = refl
journal-write (journal.OtherPlan kept wanted) = refl
journal-write (journal.Illegal place) = refl
journal-write journal.BadStart = refl
journal-write journal.Disk = refl
journal-write journal.Memory = refl

begun-write : (cause : NotBegun) → is_write (ending_of_not_begun cause) ≡ false
begun-write (why.Fence r end) = fence-write r end
begun-write (why.Start r f) = start-write r f
begun-write (why.Journal cause) = journal-write cause

may-at : (total : ℕ) (end : RunEnd) (o : RunOutcome) (e : CommandEnd) (out now : Option (List ℕ)) → may_end e ≡ false → EndsWith (taken_at total end o) e out now → ⊥
may-at total run.Finished o e out now isnt (inl done) = not_both (may_end e) (ap may_end done.0) isnt
may-at total run.Finished o e out now isnt (inr cut) = not_both (may_end e) (ap may_end cut.0) isnt
may-at total run.Held o e out now isnt ends = not_both (may_end e) (ap may_end ends.0) isnt
may-at total (run.Stopped halt) o e out now isnt ends = not_both (may_end e) (ap may_end ends.0 ∙ stop-may o.plan halt.cause) isnt
may-at total (run.NoPort switch) o e out now isnt ends = not_both (may_end e) (ap may_end ends.0) isnt
may-at total run.Memory o e out now isnt ends = not_both (may_end e) (ap may_end ends.0) isnt

ends-may : (total : ℕ) (a : Result RunOutcome JournalFault) (e : CommandEnd) (out now : Option (List ℕ)) → may_end e ≡ false → EndsWith (by_answer (taken_or_ending total) a) e out now → ⊥
ends-may total (Ok o) e out now isnt ends = may-at total o.end o e out now isnt ends
ends-may total (Err cause) e out now isnt ends = not_both (may_end e) (ap may_end ends.0 ∙ journal-may cause) isnt

not-read : (total : ℕ) (a : Result RunOutcome JournalFault) (e : CommandEnd) (out now : Option (List ℕ)) → e ≡ ReadFault → Follows (by_answer (taken_or_ending total) a) e out now → ⊥
not-read total a e out now is follows = ends-may total a ReadFault out now refl (subst (λ (x : CommandEnd). Follows (by_answer (taken_or_ending total) a) x out now) is follows)

-- ---- step by step

module _ {D P : Type 0} (trace : D → DiskTrace) (tell : P → PortTrace)
    (limits : Limits) (policy : OpView → ℕ) (r : Rollout) (disk disk_now : D) (before now : FleetSeen P) (ending : TakeoverEnding) (sink sink_now : SinkTrace)
    (takes : TakesRollout trace tell r limits policy disk disk_now before now ending sink sink_now) where
  abbrev Begun : Result (Rollout × List ℕ) NotBegun → Type 0
  Begun a = Begins a tell trace r limits.migration limits.rounds (journal_room r) before.ports takes.mid.ports disk takes.begun

  abbrev Then : Result (Rollout × List ℕ) NotBegun → Type 0
  Then a = ByBeginning trace tell limits policy a takes.begun disk_now takes.mid now ending sink sink_now

  never-read : ending ≡ Ended ReadFault → ⊥
  never-read is_e = by takes.answer takes.ends
    where
      by : (a : Result (Rollout × List ℕ) NotBegun) → Then a → ⊥
      by (Ok taken) runs = not-read _ runs.answer runs.ended sink.written sink_now.written (own-ending runs.ended ReadFault (sym runs.is ∙ is_e)) runs.follows
      by (Err cause) ends = not_both (may ending) (ap may ends.0 ∙ begun-may cause) (ap may is_e)

  rollout-write : ending ≡ Ended WriteFault → Rose sink.faults sink_now.faults
  rollout-write is_e = by takes.answer takes.ends
    where
      by : (a : Result (Rollout × List ℕ) NotBegun) → Then a → Rose sink.faults sink_now.faults
      by (Ok taken) runs = runs.write_fault (own-ending runs.ended WriteFault (sym runs.is ∙ is_e))
      by (Err cause) ends = absurd (not_both (is_write ending) (ap is_write is_e) (ap is_write ends.0 ∙ begun-write cause))

  fence-disk : (s : Rollout) (end : FenceEnd) → ending_of_fence s end ≡ Ended DiskFault → ⊥
  fence-disk s (fence.NoPort w) is = cc is
  fence-disk s (fence.Port w) is = cc is
  fence-disk s (fence.Above item held count) is = cc is
  fence-disk s (fence.Later item migration) is = cc is
  fence-disk s (fence.NotMine w item) is = cc is
  fence-disk s (fence.NoAnswer w byte) is = cc is
  fence-disk s (fence.Spent rounds item) is = cc is
  fence-disk s fence.Memory is = cc is

  start-disk : (s : Rollout) (f : StartFault) → ending_of_start s f ≡ Ended DiskFault → ⊥
  start-disk s (fault.Above item held count) is = cc is
  start-disk s (fault.Need item number) is = cc is
  start-disk s (fault.Room stage spot found wanted) is = cc is
  start-disk s fault.Memory is = cc is

  opened-disk : (start : List ℕ) → OpensAt (Err (why.Journal journal.Disk)) trace r limits.migration start (journal_room r) disk takes.begun → Rose (trace disk).faults (trace takes.begun).faults
  opened-disk start (inl unopened) = unopened.failed
  opened-disk start (inr tried) = rose_since (trace disk).faults (trace tried.opened).faults (trace takes.begun).faults tried.opens.count tried.places.cause_is.why

  cause-disk : (cause : NotBegun) → Begun (Err cause) → ending_of_not_begun cause ≡ Ended DiskFault → Rose (trace disk).faults (trace takes.begun).faults
  cause-disk (why.Fence s end) begins is = absurd (fence-disk s end is)
  cause-disk (why.Start s f) begins is = absurd (start-disk s f is)
  cause-disk (why.Journal cause) begins is =
      let failed : cause ≡ journal.Disk = journal-disk cause (own-ending (ending_of_journal cause) DiskFault is) in
      opened-disk begins.start (subst (λ (c : JournalFault). OpensAt (Err (why.Journal c)) trace r limits.migration begins.start (journal_room r) disk takes.begun) failed begins.begins.tries)

  rollout-disk : ending ≡ Ended DiskFault → Rose (trace disk).faults (trace disk_now).faults
  rollout-disk is_e = by takes.answer takes.begins takes.ends
    where
      by : (a : Result (Rollout × List ℕ) NotBegun) → Begun a → Then a → Rose (trace disk).faults (trace disk_now).faults
      by (Ok taken) begins runs =
          let tried = begins.begins.tries in
          let rose = runs.disk_fault (own-ending runs.ended DiskFault (sym runs.is ∙ is_e)) in
          rose_since (trace disk).faults (trace takes.begun).faults (trace disk_now).faults (omega (arith, tried.opens.count, tried.places.may.count)) rose
      by (Err cause) begins ends = subst (λ (d : D). Rose (trace disk).faults (trace d).faults) (sym ends.1) (cause-disk cause begins (sym ends.0 ∙ is_e))

-- ---- an ending that came before any switch was asked

cut-kind : (source source_now : SourceTrace) (e : CommandEnd) → IsCut source e source_now → (e ≡ WriteFault) ⊎ (e ≡ DiskFault) → ⊥
cut-kind source source_now e cut (inl is) = subst (λ (x : CommandEnd). IsCut source x source_now) is cut
cut-kind source source_now e cut (inr is) = subst (λ (x : CommandEnd). IsCut source x source_now) is cut

refused-kind : (input : List ℕ) (e x : CommandEnd) → e ≡ x → is_answer x ≡ false → (Gives {A = Rollout} (Err x) (rollout_in input) → rollout_in input ≡ Err x) → Gives {A = Rollout} (Err e) (rollout_in input) → ⊥
refused-kind input e x is isnt reads gives =
    not_both (is_answer x) (rollout-answers input x (reads (subst (λ (y : CommandEnd). Gives {A = Rollout} (Err y) (rollout_in input)) is gives))) isnt

module _ {D P : Type 0} (trace : D → DiskTrace) (tell : P → PortTrace)
    (source source_now : SourceTrace) (limits : Limits) (policy : OpView → ℕ) (disk disk_now : D) (before now : FleetSeen P) (ending : TakeoverEnding) (sink sink_now : SinkTrace)
    (takes : Takes trace tell source source_now limits policy disk disk_now before now ending sink sink_now) where
  pub takes-read : ending ≡ Ended ReadFault → Rose source.faults source_now.faults
  takes-read is_e = by takes.input takes.cause takes.ends
    where
      by-rollout : (input : List ℕ) (rollout : Result Rollout CommandEnd) → Gives rollout (rollout_in input) → ByRollout trace tell limits policy rollout disk disk_now before now ending sink sink_now → Rose source.faults source_now.faults
      by-rollout input (Ok r) gives ends = absurd (never-read trace tell limits policy r disk disk_now before now ending sink sink_now ends is_e)
      by-rollout input (Err e) gives ends = absurd (refused-kind input e ReadFault (own-ending e ReadFault (sym ends.0 ∙ is_e)) refl (λ h. h) gives)

      by : (read : Result (List ℕ) CommandEnd) → (IsErrOf read ReadFault → Rose source.faults source_now.faults) → ByInput trace tell limits policy read disk disk_now before now ending sink sink_now → Rose source.faults source_now.faults
      by (Ok input) cause ends = by-rollout input ends.rollout ends.gives ends.ends
      by (Err e) cause ends = cause (ap (λ (x : CommandEnd). Err x) (own-ending e ReadFault (sym ends.0 ∙ is_e)))

  -- a fault of the sink or of the disk, by what a rollout that was asked about says of it
  late : (x : CommandEnd) (Goal : Type 0) → (x ≡ WriteFault) ⊎ (x ≡ DiskFault) → is_answer x ≡ false → ((input : List ℕ) → Gives {A = Rollout} (Err x) (rollout_in input) → rollout_in input ≡ Err x) → ending ≡ Ended x
      → ((r : Rollout) → TakesRollout trace tell r limits policy disk disk_now before now ending sink sink_now → Goal) → Goal
  late x Goal kind isnt reads is_e of = by takes.input takes.reads takes.ends
    where
      by-rollout : (input : List ℕ) (rollout : Result Rollout CommandEnd) → Gives rollout (rollout_in input) → ByRollout trace tell limits policy rollout disk disk_now before now ending sink sink_now → Goal
      by-rollout input (Ok r) gives ends = of r ends
      by-rollout input (Err e) gives ends = absurd (refused-kind input e x (own-ending e x (sym ends.0 ∙ is_e)) isnt (reads input) gives)

      same : (e : CommandEnd) → e ≡ x → (e ≡ WriteFault) ⊎ (e ≡ DiskFault)
      same e is = elim kind [
        | inl write ↦ inl (is ∙ write)
        | inr device ↦ inr (is ∙ device)
      ]

      by : (read : Result (List ℕ) CommandEnd) → ReadsInput source read source_now → ByInput trace tell limits policy read disk disk_now before now ending sink sink_now → Goal
      by (Ok input) short ends = by-rollout input ends.rollout ends.gives ends.ends
      by (Err e) cut ends = absurd (cut-kind source source_now e cut (same e (own-ending e x (sym ends.0 ∙ is_e))))

  pub takes-write : ending ≡ Ended WriteFault → Rose sink.faults sink_now.faults
  takes-write is_e = late WriteFault (Rose sink.faults sink_now.faults) (inl refl) refl (λ input h. h) is_e (λ r rollout. rollout-write trace tell limits policy r disk disk_now before now ending sink sink_now rollout is_e)

  pub takes-disk : ending ≡ Ended DiskFault → Rose (trace disk).faults (trace disk_now).faults
  takes-disk is_e = late DiskFault (Rose (trace disk).faults (trace disk_now).faults) (inr refl) refl (λ input h. h) is_e (λ r rollout. rollout-disk trace tell limits policy r disk disk_now before now ending sink sink_now rollout is_e)

  module _ (status : ℕ) (notes notes_now : SinkTrace) (told : Told ending status notes notes_now) where
    pub status-read : status ≡ 6 → Rose source.faults source_now.faults
    status-read is =
        let so = told-own ending status notes notes_now told 6 (λ n. omega (arith, n)) (λ n. omega (arith, n)) (λ n. omega (arith, n)) is in
        takes-read (so.is ∙ ap Ended (is-read-fault so.own so.status_is))

    pub status-write : status ≡ 7 → Rose sink.faults sink_now.faults
    status-write is =
        let so = told-own ending status notes notes_now told 7 (λ n. omega (arith, n)) (λ n. omega (arith, n)) (λ n. omega (arith, n)) is in
        takes-write (so.is ∙ ap Ended (is-write-fault so.own so.status_is))

    pub status-disk : status ≡ 8 → Rose (trace disk).faults (trace disk_now).faults
    status-disk is =
        let so = told-own ending status notes notes_now told 8 (λ n. omega (arith, n)) (λ n. omega (arith, n)) (λ n. omega (arith, n)) is in
        takes-disk (so.is ∙ ap Ended (is-disk-fault so.own so.status_is))
