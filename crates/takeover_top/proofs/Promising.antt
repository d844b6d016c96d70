-- How the promise of a takeover follows from what it brought about, step by step.
use Rattle.std.proofs.Common.{◌≡◌, ℕ, List, true, false, Bool, Result, Ok, Err, refl, sym, ap, ◌∙◌, subst, inl, inr, arith}
use Rattle.rollout_rules.specs.Wan.{Rollout}
use Rattle.rollout_rules.specs.declared.op.OpView.{OpView}
use Rattle.wan_edge.specs.Ports.{PortTrace}
use Rattle.wan_edge.specs.Streams.{SinkTrace, SourceTrace}
use Rattle.disk_model.specs.Traces.{DiskTrace}
use Rattle.disk_mirror.specs.Openings.{IsTold as IsToldDisk}
use Rattle.dependency_graph.specs.declared.start_fault.StartFault.{StartFault}
use Rattle.dependency_graph.specs.declared.start_fault.StartFault.TheVariants as fault
use Rattle.dependency_graph.specs.FirstFault.{TellsSound}
use Rattle.rollout_rules.specs.Legal.{is_sound}
use Rattle.controller_run.specs.declared.running.Limits.{Limits}
use Rattle.fence_takeover.specs.Fences.{Fences, IsFencedOff}
use Rattle.fence_takeover.specs.declared.end.FenceEnd.{FenceEnd}
use Rattle.fence_takeover.specs.declared.end.FenceEnd.TheVariants as fence
use Rattle.fence_takeover.specs.Beginnings.{Begins}
use Rattle.fence_takeover.specs.declared.begun.NotBegun.{NotBegun}
use Rattle.fence_takeover.specs.declared.begun.NotBegun.TheVariants as why
use Rattle.text_commands.specs.Answers.{rollout_in, rollout_to}
use Rattle.text_commands.specs.CommandEnds.{ending_of_journal, status_of}
use Rattle.text_commands.specs.Reading.{IsCut, IsShortInput, ReadsInput}
use Rattle.text_commands.specs.Runs.{Gives, IsInput, IsTold}
use Rattle.text_commands.specs.declared.command_end.CommandEnd.{CommandEnd}
use Rattle.text_commands.specs.declared.command_end.CommandEnd.TheVariants.{Done, Usage, AboveLimit, Input, NotValid, NoPlan, Unshown, ReadFault, WriteFault, DiskFault, GuestFault, Refused, NotFinished, OutOfMemory}
use Rattle.text_commands.proofs.Answering.{is_answer, rollout-answers}
use Rattle.text_commands.proofs.Statuses.{is-done, not-status}
use Rattle.retarget_service.specs.JournalRoom.{journal_room}
use Rattle.swanroll_top.specs.Rollouts.{FleetSeen}
use Rattle.swanroll_top.specs.Targets.{BeginsNothing, StaysSafe}
use Rattle.swanroll_top.proofs.Reporting.{short-rollout}
use Rattle.intent_journal.specs.declared.fault.JournalFault.{JournalFault}
use Rattle.takeover_top.specs.Endings.{Told, ending_of_fence, ending_of_not_begun, ending_of_start}
use Rattle.takeover_top.specs.Takings.{ByBeginning, ByInput, ByRollout, RunsOn, Takes, TakesRollout}
use Rattle.takeover_top.specs.TakenTargets.{AsksOnly, EndsTaken, IsOfTaken, RefusesStart, TakesSafely, TakesToTarget}
use Rattle.takeover_top.specs.declared.ending.TakeoverEnding.{TakeoverEnding}
use Rattle.takeover_top.specs.declared.ending.TakeoverEnding.TheVariants.{Ended, Later, Unsound}
use Rattle.takeover_top.proofs.Fitting.{not-journal}
use Rattle.takeover_top.proofs.Taken.{run-done, run-ends, run-next, run-safe, takes-safely, told-still}

-- ---- by the status

never-13 : (e : CommandEnd) → status_of e ≡ 13 → ⊥
never-13 Done h = omega (arith, h)
never-13 Usage h = omega (arith, h)
never-13 AboveLimit h = omega (arith, h)
never-13 (Input f) h = omega (arith, h)
never-13 (NotValid p b) h = omega (arith, h)
never-13 (NoPlan u) h = omega (arith, h)
never-13 (Unshown u) h = omega (arith, h)
never-13 ReadFault h = omega (arith, h)
never-13 WriteFault h = omega (arith, h)
never-13 DiskFault h = omega (arith, h)
never-13 GuestFault h = omega (arith, h)
never-13 (Refused f) h = omega (arith, h)
never-13 (NotFinished u) h = not-status 13 refl u h
never-13 OutOfMemory h = omega (arith, h)

-- an ending that says that the start isn't sound
pub record IsUnsoundEnd (ending : TakeoverEnding) : Type 0 where
  pub there : Rollout
  pub broken : StartFault
  pub is : ending ≡ Unsound there broken

pub told-13 : (ending : TakeoverEnding) (status : ℕ) (before now : SinkTrace) → Told ending status before now → status ≡ 13 → IsUnsoundEnd ending
told-13 (Ended e) status before now told is = absurd (never-13 told.told (sym told.is_status ∙ is))
told-13 (Later item migration) status before now (inl line) is = absurd (omega (arith, line.0, is))
told-13 (Later item migration) status before now (inr memory) is = absurd (never-13 memory.told (sym memory.is_status ∙ is))
told-13 (Unsound r f) status before now told is = record { there = r; broken = f; is = refl }

-- an ending that a run may have, with this status
pub record IsEndedSo (ending : TakeoverEnding) (status : ℕ) : Type 0 where
  pub own : CommandEnd
  pub is : ending ≡ Ended own
  pub status_is : status_of own ≡ status

of-memory : (status : ℕ) → IsOfTaken status → status ≡ 12 → ⊥
of-memory status of twelve = let no : IsOfTaken 12 = subst IsOfTaken twelve of in cc

pub memory-status : (before now : SinkTrace) (status : ℕ) → IsTold OutOfMemory status before.written now.written before.faults now.faults → status ≡ 12
memory-status before now status told = elim told.is [
  | inl same ↦ told.is_status ∙ ap status_of same
  | inr memory ↦ told.is_status ∙ ap status_of memory.0
]

pub told-taken : (ending : TakeoverEnding) (status : ℕ) (before now : SinkTrace) → Told ending status before now → IsOfTaken status → IsEndedSo ending status
told-taken (Ended e) status before now told of = record {
  own = e;
  is = refl;
  status_is = elim told.is [
    | inl same ↦ ap status_of (sym same) ∙ sym told.is_status
    | inr memory ↦ absurd (of-memory status of (told.is_status ∙ ap status_of memory.0))
  ];
}
told-taken (Later item migration) status before now (inl line) of = absurd (let no : IsOfTaken 11 = subst IsOfTaken line.0 of in cc)
told-taken (Later item migration) status before now (inr memory) of = absurd (of-memory status of (memory-status before now status memory))
told-taken (Unsound r f) status before now (inl line) of = absurd (let no : IsOfTaken 13 = subst IsOfTaken line.0 of in cc)
told-taken (Unsound r f) status before now (inr memory) of = absurd (of-memory status of (memory-status before now status memory))

-- ---- which endings there are

pub own-ending : (e x : CommandEnd) → Ended e ≡ Ended x → e ≡ x
own-ending e x is = cc is

not-unsound : (e : CommandEnd) (r : Rollout) (f : StartFault) → Ended e ≡ Unsound r f → ⊥
not-unsound e r f is = cc is

-- a takeover that wasn't begun ends with none of the statuses of one that was
fence-taken : (r : Rollout) (end : FenceEnd) (e : CommandEnd) → ending_of_fence r end ≡ Ended e → IsOfTaken (status_of e) → ⊥
fence-taken r (fence.NoPort w) e is of = let no : IsOfTaken 9 = subst (λ (x : CommandEnd). IsOfTaken (status_of x)) (sym (own-ending _ e is)) of in cc
fence-taken r (fence.Port w) e is of = let no : IsOfTaken 9 = subst (λ (x : CommandEnd). IsOfTaken (status_of x)) (sym (own-ending _ e is)) of in cc
fence-taken r (fence.Above item held count) e is of = let no : IsOfTaken 11 = subst (λ (x : CommandEnd). IsOfTaken (status_of x)) (sym (own-ending _ e is)) of in cc
fence-taken r (fence.Later item migration) e is of = cc is
fence-taken r (fence.NotMine w item) e is of = let no : IsOfTaken 11 = subst (λ (x : CommandEnd). IsOfTaken (status_of x)) (sym (own-ending _ e is)) of in cc
fence-taken r (fence.NoAnswer w byte) e is of = let no : IsOfTaken 11 = subst (λ (x : CommandEnd). IsOfTaken (status_of x)) (sym (own-ending _ e is)) of in cc
fence-taken r (fence.Spent rounds item) e is of = let no : IsOfTaken 5 = subst (λ (x : CommandEnd). IsOfTaken (status_of x)) (sym (own-ending _ e is)) of in cc
fence-taken r fence.Memory e is of = let no : IsOfTaken 12 = subst (λ (x : CommandEnd). IsOfTaken (status_of x)) (sym (own-ending _ e is)) of in cc

start-taken : (r : Rollout) (f : StartFault) (e : CommandEnd) → ending_of_start r f ≡ Ended e → IsOfTaken (status_of e) → ⊥
start-taken r (fault.Above item held count) e is of = cc is
start-taken r (fault.Need item number) e is of = cc is
start-taken r (fault.Room stage spot found wanted) e is of = cc is
start-taken r fault.Memory e is of = let no : IsOfTaken 12 = subst (λ (x : CommandEnd). IsOfTaken (status_of x)) (sym (own-ending _ e is)) of in cc

journal-taken : (why : JournalFault) (e : CommandEnd) → Ended (ending_of_journal why) ≡ Ended e → IsOfTaken (status_of e) → ⊥
journal-taken why e is of = not-journal why (subst (λ (x : CommandEnd). IsOfTaken (status_of x)) (sym (own-ending _ e is)) of)

begun-taken : (cause : NotBegun) (e : CommandEnd) → ending_of_not_begun cause ≡ Ended e → IsOfTaken (status_of e) → ⊥
begun-taken (why.Fence r end) e is of = fence-taken r end e is of
begun-taken (why.Start r f) e is of = start-taken r f e is of
begun-taken (why.Journal cause) e is of = journal-taken cause e is of

-- and it is the start that isn't sound only where that was the cause
pub record IsStartCause (cause : NotBegun) : Type 0 where
  pub there : Rollout
  pub broken : StartFault
  pub is : cause ≡ why.Start there broken
  pub told : (sound : Bool) → TellsSound {A = ℕ} (Err broken) sound → sound ≡ false

fence-unsound : (r : Rollout) (end : FenceEnd) (there : Rollout) (f : StartFault) → ending_of_fence r end ≡ Unsound there f → ⊥
fence-unsound r (fence.NoPort w) there f is = cc is
fence-unsound r (fence.Port w) there f is = cc is
fence-unsound r (fence.Above item held count) there f is = cc is
fence-unsound r (fence.Later item migration) there f is = cc is
fence-unsound r (fence.NotMine w item) there f is = cc is
fence-unsound r (fence.NoAnswer w byte) there f is = cc is
fence-unsound r (fence.Spent rounds item) there f is = cc is
fence-unsound r fence.Memory there f is = cc is

start-cause : (r : Rollout) (g : StartFault) (there : Rollout) (f : StartFault) → ending_of_start r g ≡ Unsound there f → IsStartCause (why.Start r g)
start-cause r (fault.Above item held count) there f is = record { there = r; broken = fault.Above item held count; is = refl; told = λ sound tells. tells }
start-cause r (fault.Need item number) there f is = record { there = r; broken = fault.Need item number; is = refl; told = λ sound tells. tells }
start-cause r (fault.Room stage spot found wanted) there f is = record { there = r; broken = fault.Room stage spot found wanted; is = refl; told = λ sound tells. tells }
start-cause r fault.Memory there f is = absurd (cc is)

unsound-cause : (cause : NotBegun) (there : Rollout) (f : StartFault) → ending_of_not_begun cause ≡ Unsound there f → IsStartCause cause
unsound-cause (why.Fence r end) there f is = absurd (fence-unsound r end there f is)
unsound-cause (why.Start r g) there f is = start-cause r g there f is
unsound-cause (why.Journal cause) there f is = absurd (not-unsound _ there f is)

-- ---- a rollout that was asked about

module _ {D P : Type 0} (trace : D → DiskTrace) (tell : P → PortTrace)
    (limits : Limits) (policy : OpView → ℕ) (Given : List ℕ → Type 0) (input : List ℕ) (given : Given input) (r : Rollout) (is : rollout_to input ≡ Ok r)
    (disk disk_now : D) (before now : FleetSeen P) (ending : TakeoverEnding) (sink sink_now : SinkTrace) where
  abbrev pub Safely : Type 0
  Safely = TakesSafely trace tell limits Given disk disk_now before.ports now.ports

  abbrev pub Ends : Type 0
  Ends = EndsTaken trace tell limits Given disk disk_now before.ports now.ports

  -- nothing but questions went out
  asked-only : (told : Result (List ℕ) FenceEnd) (mid : FleetSeen P) → Fences told tell r.problem r.plan limits.migration limits.rounds before.ports mid.ports → BeginsNothing tell mid.ports now.ports
      → AsksOnly tell limits Given before.ports now.ports
  asked-only told mid fences rest = record { input = input; given = given; r = r; is = is; told = told; asked = mid.ports; fences = fences; rest = rest }

  still : (mid : FleetSeen P) → now ≡ mid → BeginsNothing tell mid.ports now.ports
  still mid same = inl (ap (λ (f : FleetSeen P). f.ports) same)

  not-begun-ends : (cause : NotBegun) (mid : FleetSeen P) (begun : D) → Begins (Err cause) tell trace r limits.migration limits.rounds (journal_room r) before.ports mid.ports disk begun → now ≡ mid → Ends
  not-begun-ends (why.Fence there end) mid begun begins same = inr (inl (asked-only (Err end) mid begins.fences (still mid same)))
  not-begun-ends (why.Start there f) mid begun begins same = inr (inl (asked-only (Ok begins.start) mid begins.fenced (still mid same)))
  not-begun-ends (why.Journal cause) mid begun begins same = inr (inl (asked-only (Ok begins.start) mid begins.fenced (still mid same)))

  -- ---- one that was begun

  module _ (taken : Rollout × List ℕ) (mid : FleetSeen P) (begun : D) (begins : Begins (Ok taken) tell trace r limits.migration limits.rounds (journal_room r) before.ports mid.ports disk begun)
      (runs : RunsOn trace tell taken.0 limits policy taken.1 begun disk_now mid now ending sink sink_now) where
    own : taken ≡ (r, begins.start)
    own = λ i. (begins.begins.tries.places.same i, begins.begins.tries.places.own i)

    runs-own : RunsOn trace tell r limits policy begins.start begun disk_now mid now ending sink sink_now
    runs-own = subst (λ (t : Rollout × List ℕ). RunsOn trace tell t.0 limits policy t.1 begun disk_now mid now ending sink sink_now) own runs

    told : IsToldDisk (trace begun).bytes
    told = told-still (trace begins.begins.tries.opened).bytes (trace begun).bytes begins.begins.tries.places.may.told begins.begins.tries.told

    abbrev from-stays : StaysSafe trace tell limits (λ bytes. bytes ≡ input) begun mid.ports now.ports → Safely
    from-stays stays =
        takes-safely trace tell limits Given input given r is begins.start disk begins.begins.tries.opened begun disk_now before.ports mid.ports now.ports begins.fenced begins.begins.sound begins.begins.tries.opens
        begins.begins.tries.places.may begins.begins.tries.places.placed told (run-next trace tell limits policy input r is begins.start begun disk_now mid now ending sink sink_now runs-own told) stays

    begun-ends : Ends
    begun-ends = elim (run-ends trace tell limits policy input r is begins.start begun disk_now mid now ending sink sink_now runs-own told) [
      | inl nothing ↦ inr (inl (asked-only (Ok begins.start) mid begins.fenced nothing))
      | inr stays ↦ inr (inr (from-stays stays))
    ]

    begun-safe : (e : CommandEnd) → ending ≡ Ended e → IsOfTaken (status_of e) → Safely
    begun-safe e is_e of =
        let same : runs-own.ended ≡ e = own-ending runs-own.ended e (sym runs-own.is ∙ is_e) in
        from-stays (run-safe trace tell limits policy input r is begins.start begun disk_now mid now ending sink sink_now runs-own told (subst (λ (x : CommandEnd). IsOfTaken (status_of x)) (sym same) of))

    begun-target : ending ≡ Ended Done → TakesToTarget trace tell limits Given disk disk_now before.ports now.ports sink.written sink_now.written
    begun-target is_e =
        let same : runs-own.ended ≡ Done = own-ending runs-own.ended Done (sym runs-own.is ∙ is_e) in
        let done = run-done trace tell limits policy input r is begins.start begun disk_now mid now ending sink sink_now runs-own told same in
        record { takes = from-stays done.reaches.stays; finished = done.reaches.finished; ports = done.reaches.ports; line = done.line }

  -- ---- either way

  pub rollout-ends : TakesRollout trace tell r limits policy disk disk_now before now ending sink sink_now → Ends
  rollout-ends takes = by takes.answer takes.begins takes.ends
    where
      by : (a : Result (Rollout × List ℕ) NotBegun) → Begins a tell trace r limits.migration limits.rounds (journal_room r) before.ports takes.mid.ports disk takes.begun
          → ByBeginning trace tell limits policy a takes.begun disk_now takes.mid now ending sink sink_now → Ends
      by (Ok taken) begins runs = begun-ends taken takes.mid takes.begun begins runs
      by (Err cause) begins ends = not-begun-ends cause takes.mid takes.begun begins ends.2

  pub rollout-safe : (e : CommandEnd) → ending ≡ Ended e → IsOfTaken (status_of e) → TakesRollout trace tell r limits policy disk disk_now before now ending sink sink_now → Safely
  rollout-safe e is_e of takes = by takes.answer takes.begins takes.ends
    where
      by : (a : Result (Rollout × List ℕ) NotBegun) → Begins a tell trace r limits.migration limits.rounds (journal_room r) before.ports takes.mid.ports disk takes.begun
          → ByBeginning trace tell limits policy a takes.begun disk_now takes.mid now ending sink sink_now → Safely
      by (Ok taken) begins runs = begun-safe taken takes.mid takes.begun begins runs e is_e of
      by (Err cause) begins ends = absurd (begun-taken cause e (sym ends.0 ∙ is_e) of)

  pub rollout-target : ending ≡ Ended Done → TakesRollout trace tell r limits policy disk disk_now before now ending sink sink_now
      → TakesToTarget trace tell limits Given disk disk_now before.ports now.ports sink.written sink_now.written
  rollout-target is_e takes = by takes.answer takes.begins takes.ends
    where
      by : (a : Result (Rollout × List ℕ) NotBegun) → Begins a tell trace r limits.migration limits.rounds (journal_room r) before.ports takes.mid.ports disk takes.begun
          → ByBeginning trace tell limits policy a takes.begun disk_now takes.mid now ending sink sink_now → TakesToTarget trace tell limits Given disk disk_now before.ports now.ports sink.written sink_now.written
      by (Ok taken) begins runs = begun-target taken takes.mid takes.begun begins runs is_e
      by (Err cause) begins ends = absurd (begun-taken cause Done (sym ends.0 ∙ is_e) refl)

  pub rollout-refused : (there : Rollout) (f : StartFault) → ending ≡ Unsound there f → TakesRollout trace tell r limits policy disk disk_now before now ending sink sink_now
      → RefusesStart tell limits Given disk disk_now before.ports now.ports
  rollout-refused there f is_e takes = by takes.answer takes.begins takes.ends
    where
      refuses : (there : Rollout) (g : StartFault) → ((sound : Bool) → TellsSound {A = ℕ} (Err g) sound → sound ≡ false) → Begins (Err (why.Start there g)) tell trace r limits.migration limits.rounds (journal_room r) before.ports takes.mid.ports disk takes.begun
          → disk_now ≡ takes.begun → now ≡ takes.mid → RefusesStart tell limits Given disk disk_now before.ports now.ports
      refuses there g unsound begins same_disk same = record {
        input = input;
        given = given;
        r = r;
        is = is;
        start = begins.start;
        fenced = subst (λ (f : FleetSeen P). IsFencedOff tell r.problem r.plan limits.migration limits.rounds before.ports f.ports begins.start) (sym same) begins.fenced;
        unsound = unsound (is_sound r.problem r.plan begins.start) begins.begins.unsound;
        fault = g;
        refused = record { same = refl; unsound = begins.begins.unsound; first = begins.begins.first; as_it_was = same_disk ∙ begins.begins.as_it_was };
      }

      by : (a : Result (Rollout × List ℕ) NotBegun) → Begins a tell trace r limits.migration limits.rounds (journal_room r) before.ports takes.mid.ports disk takes.begun
          → ByBeginning trace tell limits policy a takes.begun disk_now takes.mid now ending sink sink_now → RefusesStart tell limits Given disk disk_now before.ports now.ports
      by (Ok taken) begins runs = absurd (not-unsound runs.ended there f (sym runs.is ∙ is_e))
      by (Err cause) begins ends =
          let start = unsound-cause cause there f (sym ends.0 ∙ is_e) in
          refuses start.there start.broken start.told (subst (λ (c : NotBegun). Begins (Err c) tell trace r limits.migration limits.rounds (journal_room r) before.ports takes.mid.ports disk takes.begun) start.is begins) ends.1 ends.2

-- ---- an ending that came before any switch was asked

cut-early : (source source_now : SourceTrace) (e : CommandEnd) → IsCut source e source_now → IsOfTaken (status_of e) → ⊥
cut-early source source_now Done cut of = cut
cut-early source source_now Usage cut of = cut
cut-early source source_now AboveLimit cut of = cc
cut-early source source_now (Input f) cut of = cut
cut-early source source_now (NotValid p b) cut of = cut
cut-early source source_now (NoPlan u) cut of = cut
cut-early source source_now (Unshown u) cut of = cut
cut-early source source_now ReadFault cut of = cc
cut-early source source_now WriteFault cut of = cut
cut-early source source_now DiskFault cut of = cut
cut-early source source_now GuestFault cut of = cut
cut-early source source_now (Refused f) cut of = cut
cut-early source source_now (NotFinished u) cut of = cut
cut-early source source_now OutOfMemory cut of = cc

refused-early : (input : List ℕ) (e : CommandEnd) → Gives {A = Rollout} (Err e) (rollout_in input) → IsOfTaken (status_of e) → ⊥
refused-early input Done h of = let no : is_answer Done ≡ true = rollout-answers input Done h in cc
refused-early input Usage h of = cc
refused-early input AboveLimit h of = cc
refused-early input (Input f) h of = cc
refused-early input (NotValid p b) h of = cc
refused-early input (NoPlan u) h of = cc
refused-early input (Unshown u) h of = cc
refused-early input ReadFault h of = cc
refused-early input WriteFault h of = let no : is_answer WriteFault ≡ true = rollout-answers input WriteFault h in cc
refused-early input DiskFault h of = cc
refused-early input GuestFault h of = cc
refused-early input (Refused f) h of = cc
refused-early input (NotFinished u) h of = let no : is_answer (NotFinished u) ≡ true = rollout-answers input (NotFinished u) h in cc
refused-early input OutOfMemory h of = cc

-- ---- by the input

module _ {D P : Type 0} (trace : D → DiskTrace) (tell : P → PortTrace)
    (source source_now : SourceTrace) (limits : Limits) (policy : OpView → ℕ) (disk disk_now : D) (before now : FleetSeen P) (ending : TakeoverEnding) (sink sink_now : SinkTrace)
    (takes : Takes trace tell source source_now limits policy disk disk_now before now ending sink sink_now) where
  abbrev pub Own : List ℕ → Type 0
  Own input = IsInput source source_now input

  abbrev pub ForRollout : Type 0 → Type 0
  ForRollout Goal = (input : List ℕ) → Own input → (r : Rollout) → rollout_to input ≡ Ok r → TakesRollout trace tell r limits policy disk disk_now before now ending sink sink_now → Goal

  -- what holds where an ending came before any switch was asked, and where one was
  by-input : (Goal : Type 0) → ((e : CommandEnd) → ending ≡ Ended e → now ≡ before → (IsOfTaken (status_of e) → ⊥) → Goal) → ForRollout Goal → Goal
  by-input Goal early late = by takes.input takes.reads takes.ends
    where
      by-rollout : (input : List ℕ) (short : IsShortInput source source_now input) (rollout : Result Rollout CommandEnd) → Gives rollout (rollout_in input)
          → ByRollout trace tell limits policy rollout disk disk_now before now ending sink sink_now → Goal
      by-rollout input short (Ok r) gives ends = late input short.input r (short-rollout input short.within ∙ gives) ends
      by-rollout input short (Err e) gives ends = early e ends.0 ends.2 (refused-early input e gives)

      by : (read : Result (List ℕ) CommandEnd) → ReadsInput source read source_now → ByInput trace tell limits policy read disk disk_now before now ending sink sink_now → Goal
      by (Ok input) short ends = by-rollout input short ends.rollout ends.gives ends.ends
      by (Err e) cut ends = early e ends.0 ends.2 (cut-early source source_now e cut)

  pub takes-ends : EndsTaken trace tell limits Own disk disk_now before.ports now.ports
  takes-ends = by-input (EndsTaken trace tell limits Own disk disk_now before.ports now.ports) (λ e is same never. inl (ap (λ (f : FleetSeen P). f.ports) same))
      (λ input given r is rollout. rollout-ends trace tell limits policy Own input given r is disk disk_now before now ending sink sink_now rollout)

  pub takes-refused : (there : Rollout) (f : StartFault) → ending ≡ Unsound there f → RefusesStart tell limits Own disk disk_now before.ports now.ports
  takes-refused there f is_e = by-input (RefusesStart tell limits Own disk disk_now before.ports now.ports) (λ e is same never. absurd (not-unsound e there f (sym is ∙ is_e)))
      (λ input given r is rollout. rollout-refused trace tell limits policy Own input given r is disk disk_now before now ending sink sink_now there f is_e rollout)

  pub takes-safe : (e : CommandEnd) → ending ≡ Ended e → IsOfTaken (status_of e) → TakesSafely trace tell limits Own disk disk_now before.ports now.ports
  takes-safe e is_e of = by-input (TakesSafely trace tell limits Own disk disk_now before.ports now.ports)
      (λ x is same never. absurd (never (subst (λ (y : CommandEnd). IsOfTaken (status_of y)) (own-ending e x (sym is_e ∙ is)) of)))
      (λ input given r is rollout. rollout-safe trace tell limits policy Own input given r is disk disk_now before now ending sink sink_now e is_e of rollout)

  pub takes-target : ending ≡ Ended Done → TakesToTarget trace tell limits Own disk disk_now before.ports now.ports sink.written sink_now.written
  takes-target is_e = by-input (TakesToTarget trace tell limits Own disk disk_now before.ports now.ports sink.written sink_now.written)
      (λ x is same never. absurd (never (subst (λ (y : CommandEnd). IsOfTaken (status_of y)) (own-ending Done x (sym is_e ∙ is)) refl)))
      (λ input given r is rollout. rollout-target trace tell limits policy Own input given r is disk disk_now before now ending sink sink_now is_e rollout)

  -- ---- by the status

  module _ (status : ℕ) (notes notes_now : SinkTrace) (told : Told ending status notes notes_now) where
    pub status-safe : IsOfTaken status → TakesSafely trace tell limits Own disk disk_now before.ports now.ports
    status-safe of =
        let so = told-taken ending status notes notes_now told of in
        takes-safe so.own so.is (subst IsOfTaken (sym so.status_is) of)

    pub status-target : status ≡ 0 → TakesToTarget trace tell limits Own disk disk_now before.ports now.ports sink.written sink_now.written
    status-target zero =
        let so = told-taken ending status notes notes_now told (subst IsOfTaken (sym zero) refl) in
        takes-target (so.is ∙ ap Ended (is-done so.own (so.status_is ∙ zero)))

    pub status-refused : status ≡ 13 → RefusesStart tell limits Own disk disk_now before.ports now.ports
    status-refused is =
        let so = told-13 ending status notes notes_now told is in
        takes-refused so.there so.broken so.is
