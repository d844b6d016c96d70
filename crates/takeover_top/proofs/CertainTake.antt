-- A takeover that finds all that it needs ends well.
use Rattle.std.proofs.Common.{◌≡◌, ℕ, ◌≤◌, Bool, true, List, length, Option, Some, None, Result, Ok, Err, is_some, inl, inr, refl, sym, ap, ◌∙◌, subst, arith}
use Rattle.std.specs.Prelude.{IfSome, IsErrOf}
use Rattle.std.proofs.lemmas.Bool.{false≢true}
use Rattle.lists.proofs.Options.{of_some}
use Rattle.rollout_rules.specs.Legal.{is_sound}
use Rattle.rollout_rules.specs.Network.{IsNetwork}
use Rattle.rollout_rules.specs.Wan.{Rollout}
use Rattle.rollout_rules.specs.declared.op.OpView.{OpView}
use Rattle.wan_edge.proofs.Faults.{rose_since}
use Rattle.disk_model.specs.Traces.{DiskTrace}
use Rattle.wan_edge.specs.Ports.{PortTrace}
use Rattle.wan_edge.specs.Streams.{Rose, SinkTrace, SourceTrace}
use Rattle.dependency_graph.specs.declared.start_fault.StartFault.{StartFault}
use Rattle.dependency_graph.specs.declared.start_fault.StartFault.TheVariants as broken
use Rattle.dependency_graph.specs.FirstFault.{TellsSound}
use Rattle.intent_journal.specs.Images.{journal_in}
use Rattle.intent_journal.specs.Parts.{Kept}
use Rattle.intent_journal.specs.Phases.{IsFresh}
use Rattle.intent_journal.specs.Placements.{IsNeither, IsPlacingFault, MayBePlaced}
use Rattle.intent_journal.specs.declared.fault.JournalFault.{JournalFault}
use Rattle.intent_journal.specs.declared.fault.JournalFault.TheVariants as fault
use Rattle.switch_ports.specs.Homes.{working_homes}
use Rattle.controller_run.specs.declared.running.Limits.{Limits}
use Rattle.fence_takeover.specs.Beginnings.{Begins, taken_kept}
use Rattle.fence_takeover.specs.declared.end.FenceEnd.{FenceEnd}
use Rattle.fence_takeover.specs.declared.end.FenceEnd.TheVariants as fence
use Rattle.fence_takeover.specs.declared.begun.NotBegun.{NotBegun}
use Rattle.fence_takeover.specs.declared.begun.NotBegun.TheVariants as why
use Rattle.text_commands.specs.Answers.{rollout_in, rollout_to}
use Rattle.text_commands.specs.CommandEnds.{ending_of_journal, status_of}
use Rattle.text_commands.specs.Reading.{IsCut, IsShortInput, ReadsInput}
use Rattle.text_commands.specs.Runs.{Gives, IsTold}
use Rattle.text_commands.specs.declared.command_end.CommandEnd.{CommandEnd}
use Rattle.text_commands.specs.declared.command_end.CommandEnd.TheVariants.{Done, Usage, AboveLimit, Input, NotValid, NoPlan, Unshown, ReadFault, WriteFault, DiskFault, GuestFault, Refused, NotFinished, OutOfMemory}
use Rattle.text_commands.proofs.Inputs.{beyond-input, told-within}
use Rattle.retarget_service.specs.JournalRoom.{journal_room}
use Rattle.swanroll_top.specs.Ready.{CountsNoFault}
use Rattle.swanroll_top.specs.Rollouts.{FleetSeen}
use Rattle.swanroll_top.proofs.Reporting.{rolled-within, short-rollout}
use Rattle.takeover_top.specs.Endings.{Told, ending_of_not_begun}
use Rattle.takeover_top.specs.ReadyToTake.{EndsWell, IsGivenFor, IsReadyToTake, WaitsToTell}
use Rattle.takeover_top.specs.Takings.{ByBeginning, ByInput, ByRollout, RunsOn, Takes, TakesRollout}
use Rattle.takeover_top.specs.declared.ending.TakeoverEnding.{TakeoverEnding}
use Rattle.takeover_top.specs.declared.ending.TakeoverEnding.TheVariants.{Ended, Later}
use Rattle.takeover_top.proofs.CertainRun.{run-well}
use Rattle.takeover_top.proofs.PromptFences.{IsFenceExcused, fences-only, fences-start}
use Rattle.takeover_top.proofs.PromptHomes.{all-at}
use Rattle.takeover_top.proofs.PromptVisits.{AreHere, HasFailed}

-- how a takeover may end that finds all that it needs
pub record IsWellEnd (policy : OpView → ℕ) (ending : TakeoverEnding) : Type 0 where
  pub own : CommandEnd
  pub is : ending ≡ Ended own
  pub well : EndsWell policy (status_of own)

wanted : (policy : OpView → ℕ) (ending : TakeoverEnding) → ending ≡ Ended OutOfMemory → IsWellEnd policy ending
wanted policy ending is = record { own = OutOfMemory; is = is; well = inl refl }

neither-placed : (first : ℕ) (image : List ℕ) → MayBePlaced image → IsNeither first image → ⊥
neither-placed first image (inl blank) neither = false≢true (sym neither.not_blank ∙ blank)
neither-placed first image (inr journal) neither = false≢true (sym (ap is_some neither.no_journal) ∙ journal)

-- a start that is refused though it is sound was refused for lack of memory
only-memory : (f : StartFault) (sound : Bool) → sound ≡ true → TellsSound {A = ℕ} (Err f) sound → f ≡ broken.Memory
only-memory (broken.Above item held count) sound is tells = absurd (false≢true (sym tells ∙ is))
only-memory (broken.Need item number) sound is tells = absurd (false≢true (sym tells ∙ is))
only-memory (broken.Room stage spot found more) sound is tells = absurd (false≢true (sym tells ∙ is))
only-memory broken.Memory sound is tells = refl

-- ---- a rollout

module _ {D P : Type 0} (trace : D → DiskTrace) (tell : P → PortTrace)
    (r : Rollout) (net : IsNetwork r.problem) (limits : Limits) (policy : OpView → ℕ) (start : List ℕ) (disk disk_now : D) (image : List ℕ) (stored : (trace disk).bytes ≡ Some image) (may : MayBePlaced image)
    (before now : FleetSeen P) (ready : IsReadyToTake tell limits before.ports.waiting r start) (counts : CountsNoFault tell (trace disk).faults (trace disk_now).faults before now)
    (ending : TakeoverEnding) (sink sink_now : SinkTrace) (unfailed : Rose sink.faults sink_now.faults → ⊥) where
  abbrev Stand : FleetSeen P → Type 0
  Stand seen = AreHere tell r net limits.migration ready.small start limits.rounds ready.some ready.ports seen.ports

  -- as it is found
  at-first : Stand before
  at-first = record {
    waiting = ready.ports;
    told = ready.told;
    each = λ switch at.
        let own = all-at (WaitsToTell tell r limits.migration start ready.ports) (working_homes r.problem r.plan) switch ready.each at in
        record { port = own.port; waits = own.waits; ready = own.ready; first = own.port; first_is = own.waits; count = omega arith };
  }

  -- ---- where the switches weren't fenced off

  module _ (mid : FleetSeen P) (same : now ≡ mid) where
    abbrev Excused : FenceEnd → Type 0
    Excused end = IsFenceExcused tell r net limits.migration ready.small start ready.long ready.sound limits.rounds ready.some ready.ports before.ports at-first mid.ports end

    port-never : HasFailed tell r net limits.migration ready.small start limits.rounds ready.some ready.ports mid.ports → ⊥
    port-never failed =
        of_some (λ (waiting : ℕ → Option P). (switch : ℕ) (first back : P) → waiting switch ≡ Some first → now.ports.kept switch ≡ Some back → Rose (tell first).faults (tell back).faults → ⊥)
        before.ports.waiting ready.ports ready.told counts.ports failed.switch failed.first failed.back failed.first_is (ap (λ (f : FleetSeen P). f.ports.kept failed.switch) same ∙ failed.kept) failed.rose

    unfenced : (there : Rollout) (end : FenceEnd) → Excused end → ((other : Rollout) (switch : ℕ) → IsErrOf {T = Rollout × List ℕ} (Err (why.Fence there end)) (why.Fence other (fence.NoPort switch)) → Rose before.faults mid.faults)
        → ending ≡ ending_of_not_begun (why.Fence there end) → IsWellEnd policy ending
    unfenced there (fence.NoPort w) excused missing is = absurd (counts.fleet (subst (λ (f : FleetSeen P). Rose before.faults f.faults) (sym same) (missing there w refl)))
    unfenced there (fence.Port w) excused missing is = absurd (port-never excused)
    unfenced there (fence.Above item held count) excused missing is = absurd excused
    unfenced there (fence.Later item found) excused missing is = absurd excused
    unfenced there (fence.NotMine w item) excused missing is = absurd excused
    unfenced there (fence.NoAnswer w byte) excused missing is = absurd excused
    unfenced there (fence.Spent rounds item) excused missing is = absurd excused
    unfenced there fence.Memory excused missing is = wanted policy ending is

  -- ---- where no journal was placed

  unplaced : (cause : JournalFault) (told : Option (List ℕ)) (old new : ℕ) → told ≡ Some image → IsPlacingFault cause told old new → (Rose old new → ⊥) → ending ≡ Ended (ending_of_journal cause) → IsWellEnd policy ending
  unplaced (fault.NotJournal first) told old new told_is placing failed is = absurd (neither-placed first image may (of_some (IsNeither first) told image told_is placing))
  unplaced fault.Memory told old new told_is placing failed is = wanted policy ending is
  unplaced fault.Disk told old new told_is placing failed is = absurd (failed placing)
  unplaced (fault.OtherPlan kept named) told old new told_is placing failed is = absurd placing
  unplaced (fault.Illegal place) told old new told_is placing failed is = absurd placing
  unplaced fault.BadStart told old new told_is placing failed is = absurd placing

  -- ---- what came of the beginning

  by-beginning : (answer : Result (Rollout × List ℕ) NotBegun) (begun : D) (mid : FleetSeen P) → Begins answer tell trace r limits.migration limits.rounds (journal_room r) before.ports mid.ports disk begun
      → ((other : Rollout) (switch : ℕ) → IsErrOf answer (why.Fence other (fence.NoPort switch)) → Rose before.faults mid.faults) → before.faults ≤ mid.faults
      → ByBeginning trace tell limits policy answer begun disk_now mid now ending sink sink_now → IsWellEnd policy ending
  by-beginning (Err (why.Fence there end)) begun mid begins missing count ends =
      unfenced mid ends.2 there end
      (fences-only tell r net limits.migration ready.small start ready.long ready.sound limits.rounds ready.some ready.ports before.ports at-first mid.ports end begins.fences) missing ends.0
  by-beginning (Err (why.Start there f)) begun mid begins missing count ends =
      let found = fences-start tell r net limits.migration ready.small start ready.long ready.sound limits.rounds ready.some ready.ports before.ports at-first mid.ports begins.start begins.fenced in
      let memory : f ≡ broken.Memory = only-memory f (is_sound r.problem r.plan begins.start) (ap (is_sound r.problem r.plan) found.0 ∙ ready.sound) begins.begins.unsound in
      wanted policy ending (ends.0 ∙ ap (λ (g : StartFault). ending_of_not_begun (why.Start there g)) memory)
  by-beginning (Err (why.Journal cause)) begun mid begins missing count ends = elim begins.begins.tries [
    | inl none ↦ absurd (counts.disk (subst (λ (d : D). Rose (trace disk).faults (trace d).faults) (sym ends.1) none.failed))
    | inr opens ↦
        unplaced cause (trace opens.opened).bytes (trace opens.opened).faults (trace begun).faults
        (of_some (λ all. (trace opens.opened).bytes ≡ Some all) (trace disk).bytes image stored opens.opens.same) opens.places.cause_is.why
        (λ rose. counts.disk (subst (λ (d : D). Rose (trace disk).faults (trace d).faults) (sym ends.1) (rose_since (trace disk).faults (trace opens.opened).faults (trace begun).faults opens.opens.count rose)))
        ends.0
  ]
  by-beginning (Ok taken) begun mid begins missing count runs =
      let places = begins.begins.tries.places in
      let found = fences-start tell r net limits.migration ready.small start ready.long ready.sound limits.rounds ready.some ready.ports before.ports at-first mid.ports begins.start begins.fenced in
      let own : taken ≡ (r, start) = λ i. (places.same i, (places.own ∙ found.0) i) in
      let runs_own : RunsOn trace tell r limits policy start begun disk_now mid now ending sink sink_now
      = subst (λ (t : Rollout × List ℕ). RunsOn trace tell t.0 limits policy t.1 begun disk_now mid now ending sink sink_now) own runs in
      let opened_told = of_some (λ all. (trace begins.begins.tries.opened).bytes ≡ Some all) (trace disk).bytes image stored begins.begins.tries.opens.same in
      let told = still-told (trace begins.begins.tries.opened).bytes (trace begun).bytes image opened_told places.may.told in
      let keeps : journal_in told.0 ≡ Some (taken_kept r limits.migration start)
      = (of_some (λ all. journal_in all ≡ Some (taken_kept r limits.migration begins.start)) (trace begun).bytes told.0 told.1 (fresh-keeps (trace begun).bytes (taken_kept r limits.migration begins.start) places.placed.fresh))
      ∙ ap (λ (s : List ℕ). Some (taken_kept r limits.migration s)) found.0 in
      record {
        own = runs_own.ended;
        is = runs_own.is;
        well = run-well trace tell r net limits policy ready.small start ready.long ready.sound ready.some ready.enough ready.ports (trace disk).faults begun disk_now
            (omega (arith, begins.begins.tries.opens.count, places.may.count)) told.0 told.1 keeps before mid now count ready.told found.1 counts ending sink sink_now runs_own unfailed;
      }
    where
      still-told : (opened placed : Option (List ℕ)) (all : List ℕ) → opened ≡ Some all → is_some placed ≡ is_some opened → (bytes : List ℕ) × (placed ≡ Some bytes)
      still-told opened None all is keeps = absurd (false≢true (keeps ∙ ap is_some is))
      still-told opened (Some bytes) all is keeps = (bytes, refl)

      fresh-keeps : (placed : Option (List ℕ)) (kept : Kept) → IfSome placed (IsFresh kept) → IfSome placed (λ all. journal_in all ≡ Some kept)
      fresh-keeps None kept fresh = tt
      fresh-keeps (Some all) kept fresh = fresh.keeps

-- ---- by the input

module _ {D P : Type 0} (trace : D → DiskTrace) (tell : P → PortTrace)
    (source source_now : SourceTrace) (limits : Limits) (policy : OpView → ℕ) (r : Rollout) (start : List ℕ) (disk disk_now : D) (before now : FleetSeen P) (ending : TakeoverEnding) (sink sink_now : SinkTrace)
    (given : IsGivenFor source source_now (trace disk).bytes r) (ready : IsReadyToTake tell limits before.ports.waiting r start) (counts : CountsNoFault tell (trace disk).faults (trace disk_now).faults before now)
    (unread : Rose source.faults source_now.faults → ⊥) (unfailed : Rose sink.faults sink_now.faults → ⊥) where
  -- an input that was read is the one that is told
  read-is : (input : List ℕ) → IsShortInput source source_now input → rollout_in input ≡ Ok r
  read-is input short =
      let same : given.input ≡ input = told-within source source_now input given.input short.input (rolled-within given.input r given.is) given.told_input in
      sym (short-rollout input short.within) ∙ ap rollout_to (sym same) ∙ given.is

  -- a source that wasn't read to its end
  cut-well : (e : CommandEnd) → IsCut source e source_now → (e ≡ ReadFault → Rose source.faults source_now.faults) → ending ≡ Ended e → IsWellEnd policy ending
  cut-well Done cut failed is = absurd cut
  cut-well Usage cut failed is = absurd cut
  cut-well AboveLimit cut failed is =
      let all = beyond-input source source_now cut in
      let within = rolled-within given.input r given.is in
      let same : given.input ≡ all.input = told-within source source_now all.input given.input all.is within given.told_input in
      absurd (omega (arith, within, all.long, ap (λ (xs : List ℕ). length xs) same))
  cut-well (Input f) cut failed is = absurd cut
  cut-well (NotValid p b) cut failed is = absurd cut
  cut-well (NoPlan u) cut failed is = absurd cut
  cut-well (Unshown u) cut failed is = absurd cut
  cut-well ReadFault cut failed is = absurd (unread (failed refl))
  cut-well WriteFault cut failed is = absurd cut
  cut-well DiskFault cut failed is = absurd cut
  cut-well GuestFault cut failed is = absurd cut
  cut-well (Refused f) cut failed is = absurd cut
  cut-well (NotFinished u) cut failed is = absurd cut
  cut-well OutOfMemory cut failed is = wanted policy ending is

  -- a rollout is refused only for lack of memory
  refused-well : (e : CommandEnd) → Gives {A = Rollout} (Err e) (Ok r) → ending ≡ Ended e → IsWellEnd policy ending
  refused-well Done gives is = absurd (cc gives)
  refused-well Usage gives is = absurd (cc gives)
  refused-well AboveLimit gives is = absurd (cc gives)
  refused-well (Input f) gives is = absurd (cc gives)
  refused-well (NotValid p b) gives is = absurd (cc gives)
  refused-well (NoPlan u) gives is = absurd (cc gives)
  refused-well (Unshown u) gives is = absurd (cc gives)
  refused-well ReadFault gives is = absurd (cc gives)
  refused-well WriteFault gives is = absurd (cc gives)
  refused-well DiskFault gives is = absurd (cc gives)
  refused-well GuestFault gives is = absurd (cc gives)
  refused-well (Refused f) gives is = absurd (cc gives)
  refused-well (NotFinished u) gives is = absurd (cc gives)
  refused-well OutOfMemory gives is = wanted policy ending is

  rollout-well : (there : Rollout) → there ≡ r → TakesRollout trace tell there limits policy disk disk_now before now ending sink sink_now → IsWellEnd policy ending
  rollout-well there same takes =
      let own : TakesRollout trace tell r limits policy disk disk_now before now ending sink sink_now = subst (λ (x : Rollout). TakesRollout trace tell x limits policy disk disk_now before now ending sink sink_now) same takes in
      by-beginning trace tell r given.network limits policy start disk disk_now given.image given.told given.may before now ready counts ending sink sink_now unfailed
      own.answer own.begun own.mid own.begins own.no_port own.count own.ends

  by-rollout : (input : List ℕ) → IsShortInput source source_now input → (rollout : Result Rollout CommandEnd) → Gives rollout (rollout_in input) → ByRollout trace tell limits policy rollout disk disk_now before now ending sink sink_now → IsWellEnd policy ending
  by-rollout input short (Ok there) gives ends =
      let both : Ok there ≡ Ok r = sym gives ∙ read-is input short in
      rollout-well there (cc both) ends
  by-rollout input short (Err e) gives ends = refused-well e (subst (λ (answer : Result Rollout CommandEnd). Gives {A = Rollout} (Err e) answer) (read-is input short) gives) ends.0

  by-input : (read : Result (List ℕ) CommandEnd) → ReadsInput source read source_now → (IsErrOf read ReadFault → Rose source.faults source_now.faults) → ByInput trace tell limits policy read disk disk_now before now ending sink sink_now → IsWellEnd policy ending
  by-input (Ok input) short failed ends = by-rollout input short ends.rollout ends.gives ends.ends
  by-input (Err e) cut failed ends = cut-well e cut (λ is. failed (ap (λ (x : CommandEnd). Err x) is)) ends.0

  pub takes-well : Takes trace tell source source_now limits policy disk disk_now before now ending sink sink_now → IsWellEnd policy ending
  takes-well takes = by-input takes.input takes.reads takes.cause takes.ends

  -- ---- by the status

  told-well : (notes notes_now : SinkTrace) (status : ℕ) (own : CommandEnd) → EndsWell policy (status_of own)
      → IsTold own status notes.written notes_now.written notes.faults notes_now.faults → EndsWell policy status
  told-well notes notes_now status own well told = elim told.is [
    | inl same ↦
        let is : status ≡ status_of own = told.is_status ∙ ap status_of same in
        elim well [
          | inl memory ↦ inl (is ∙ memory)
          | inr (inl done) ↦ inr (inl (is ∙ done))
          | inr (inr held) ↦ inr (inr (is ∙ held.0, held.1))
        ]
    | inr memory ↦ inl (told.is_status ∙ ap status_of memory.0)
  ]

  pub status-well : (notes notes_now : SinkTrace) (status : ℕ) → Takes trace tell source source_now limits policy disk disk_now before now ending sink sink_now → Told ending status notes notes_now
      → EndsWell policy status
  status-well notes notes_now status takes told =
      let well = takes-well takes in
      told-well notes notes_now status well.own well.well (subst (λ (x : TakeoverEnding). Told x status notes notes_now) well.is told)
