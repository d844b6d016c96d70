-- A rollback that finds all that it needs ends well.
use Rattle.std.proofs.Common.{◌≡◌, ◌≢◌, ℕ, ◌+◌, ◌<◌, ◌^◌, true, false, List, [], Option, Some, None, Ok, refl, sym, ap, ◌∙◌, subst, inl, inr, arith}
use Rattle.std.specs.Prelude.{IsSome}
use Rattle.std.specs.List.{AllByRecursion}
use Rattle.std.proofs.lemmas.List.Elements.{All-contains}
use Rattle.lists.proofs.Options.{of_some}
use Rattle.lists.proofs.Conditions.{some_same_is}
use Rattle.rollout_rules.specs.Wan.{Rollout}
use Rattle.rollout_rules.specs.History.{History}
use Rattle.rollout_rules.specs.Network.{IsNetwork}
use Rattle.rollout_rules.specs.Valid.{is_valid_plan}
use Rattle.wan_edge.proofs.Faults.{rose_since}
use Rattle.disk_model.specs.Traces.{DiskTrace}
use Rattle.disk_mirror.specs.Openings.{Opens}
use Rattle.wan_edge.specs.Ports.{PortTrace}
use Rattle.wan_edge.specs.Streams.{Rose, SourceTrace}
use Rattle.intent_journal.specs.Parts.{Kept}
use Rattle.intent_journal.specs.Placements.{IsNeither}
use Rattle.intent_journal.specs.Recovered.{IsCause}
use Rattle.intent_journal.specs.Verdicts.{verdict}
use Rattle.intent_journal.specs.Openings.{found_by}
use Rattle.intent_journal.specs.declared.fault.JournalFault.{JournalFault}
use Rattle.intent_journal.specs.declared.fault.JournalFault.TheVariants as fault
use Rattle.shared_book.specs.declared.note.Cause.{Cause}
use Rattle.shared_book.specs.declared.note.Cause.TheVariants as cause
use Rattle.shared_book.specs.declared.call_reply.Halt.{Halt}
use Rattle.shared_book.specs.Homes.{homes_of}
use Rattle.shared_book.specs.Images.{HasImages}
use Rattle.shared_book.specs.Opened.{opening_of}
use Rattle.port_session.specs.Sessions.{SessionView}
use Rattle.switch_ports.specs.Hands.{first_sessions}
use Rattle.switch_ports.specs.Homes.{working_homes}
use Rattle.switch_ports.specs.Opening.{AreGiven}
use Rattle.rollout_report.specs.Journals.{digest_for}
use Rattle.controller_run.specs.declared.end.RunEnd.{RunEnd}
use Rattle.controller_run.specs.declared.end.RunEnd.TheVariants as run
use Rattle.controller_run.specs.declared.outcome.RunOutcome.{RunOutcome}
use Rattle.controller_run.specs.declared.running.Limits.{Limits}
use Rattle.completion_laws.specs.Faults.{IsExcused, IsWithoutFault}
use Rattle.completion_laws.specs.Finishing.{EndsOrIsExcused, IsProvided, IsWant}
use Rattle.completion_laws.proofs.Excused.{ran-ends}
use Rattle.completion_laws.proofs.Finished.{only-want}
use Rattle.completion_laws.proofs.NoFaults.{no-fault}
use Rattle.rollback_service.specs.Levellings.{HasLevelled, LacksPort, start_of}
use Rattle.rollback_service.specs.Placings.{IsNotPlaced, IsSeen}
use Rattle.rollback_service.specs.declared.answer.LevelAnswer.{LevelAnswer}
use Rattle.rollback_service.specs.declared.answer.LevelAnswer.TheVariants as ended
use Rattle.rollback_service.specs.declared.origin.BackFrom.{BackFrom}
use Rattle.text_commands.specs.CommandEnds.{ending_of_journal, status_of}
use Rattle.swanroll_top.specs.Ready.{CountsNoFault, GoesOnFrom, IsServedFor, WaitsReady}
use Rattle.text_commands.specs.Answers.{rollout_to}
use Rattle.swanroll_top.specs.Rollbacks.{Closes, FindsNoJournal, Levels, OpensAndRollsBack, Reverts, RevertsAs, RollsBack, TakesBack, back_text}
use Rattle.swanroll_top.specs.Rollouts.{FleetSeen, ending_at, ending_of_stop}
use Rattle.text_commands.specs.Runs.{IsInput}
use Rattle.text_commands.specs.declared.command_end.CommandEnd.{CommandEnd}
use Rattle.text_commands.specs.declared.command_end.CommandEnd.TheVariants.{DiskFault}
use Rattle.swanroll_top.proofs.Certain.{opened-ready, opened-waited}
use Rattle.text_commands.proofs.Inputs.{told-within}
use Rattle.swanroll_top.proofs.Levelling.{here}
use Rattle.text_commands.proofs.Programs.{follows-ends, told-same}
use Rattle.swanroll_top.proofs.Reporting.{rolled-within}
use Rattle.swanroll_top.proofs.Reverting.{Begun, is_level, is_run, levels-rose, run-begun, stopped-begun, unlevel-not}
use Rattle.switch_laws.proofs.Stands.{was_told}
use Rattle.swanroll_top.proofs.Unbegun.{goes-opened, unbegun-never, unopened-never}

is-some : {A : Type 0} (o : Option A) → IsSome o → (a : A) × (o ≡ Some a)
is-some None h = absurd (cc h)
is-some (Some a) h = (a, refl)

-- ---- a stop

-- what may stop a run over ready ports has a status of its own
pub excused-never : (e : CommandEnd) (other : Rollout) (why : Cause) → e ≡ ending_of_stop other why → IsExcused why → (status_of e ≡ 8 → ⊥) → (status_of e ≡ 9 → ⊥) → (status_of e ≡ 12 → ⊥) → ⊥
excused-never e other (cause.Spent rounds item number) is excused device fleet memory = excused
excused-never e other (cause.Port switch) is excused device fleet memory = fleet (ap status_of is)
excused-never e other (cause.Above item held begun) is excused device fleet memory = excused
excused-never e other (cause.NotMine switch item) is excused device fleet memory = excused
excused-never e other (cause.NoAnswer switch byte) is excused device fleet memory = excused
excused-never e other cause.Disk is excused device fleet memory = device (ap status_of is)
excused-never e other cause.Memory is excused device fleet memory = memory (ap status_of is)

pub wanting-never : (e : CommandEnd) (other : Rollout) (why : Cause) → e ≡ ending_of_stop other why → IsWant why → (status_of e ≡ 12 → ⊥) → ⊥
wanting-never e other (cause.Spent rounds item number) is want memory = want
wanting-never e other (cause.Port switch) is want memory = want
wanting-never e other (cause.Above item held begun) is want memory = want
wanting-never e other (cause.NotMine switch item) is want memory = want
wanting-never e other (cause.NoAnswer switch byte) is want memory = want
wanting-never e other cause.Disk is want memory = want
wanting-never e other cause.Memory is want memory = memory (ap status_of is)

-- ---- a rollout that was levelled, from a disk that tells its image

module _ {D P : Type 0} (trace : D → DiskTrace) (tell : P → PortTrace)
    (origin : BackFrom) (limits : Limits) (source source_now : SourceTrace) (disk disk_now : D) (before now : FleetSeen P) (out out_now : Option (List ℕ)) (r : Rollout) (found : History)
    (goes : GoesOnFrom limits.migration source source_now (trace disk).bytes r found) (served : IsServedFor tell limits before.ports.waiting r found) where
  abbrev HasLevelledTo : D → LevelAnswer → Type 0
  HasLevelledTo levelled answer = HasLevelled trace tell origin r (digest_for r limits.migration) limits.rounds disk before.ports now.ports levelled answer

  module _ (network : IsNetwork r.problem) (valid : is_valid_plan r.problem r.plan ≡ true) (small : limits.migration + 1 < 2 ^ 32) (levelled : D) (answer : LevelAnswer) (has : HasLevelledTo levelled answer) where
    abbrev RanTo : RunEnd → Type 0
    RanTo end = Begun trace tell origin r limits.migration limits.rounds disk levelled before.ports now.ports answer has end

    -- the book has what was found
    found-is : found ≡ has.rolled.book.history
    found-is =
        some_same_is found has.rolled.book.history
        (sym goes.begins
        ∙ of_some (λ image. found_by r (verdict r (digest_for r limits.migration) image) ≡ Some has.rolled.book.history) (trace disk).bytes goes.image goes.told has.rolled.opened.found)

    served-book : IsServedFor tell limits before.ports.waiting has.rolled.book.rollout has.rolled.book.history
    served-book =
        subst (λ (x : Rollout). IsServedFor tell limits before.ports.waiting x has.rolled.book.history) (sym has.rolled.opened.rollout)
        (subst (λ (h : History). IsServedFor tell limits before.ports.waiting r h) found-is served)

    provided : (end : RunEnd) (ran : RanTo end) → IsProvided tell (opening_of has.rolled.book has.policy) limits.migration (homes_of has.rolled.book.rollout.problem) limits.rounds (first_sessions ran.berths)
    provided end ran = record {
      network = subst (λ (x : Rollout). IsNetwork x.problem) (sym has.rolled.opened.rollout) network;
      plan = subst (λ (x : Rollout). is_valid_plan x.problem x.plan ≡ true) (sym has.rolled.opened.rollout) valid;
      small = omega (arith, small);
      ready = opened-ready tell has.rolled.book.rollout limits.migration has.rolled.book.history served-book.ports ran.berths
          (subst (λ (w : Option (ℕ → Option P)). AreGiven tell w ran.berths) served-book.told ran.given)
          (subst (λ (switches : List ℕ). AllByRecursion (WaitsReady tell has.rolled.book.rollout limits.migration has.rolled.book.history served-book.ports) switches) (sym ran.switches) served-book.each);
      enough = served-book.enough;
    }

    ends-so : (end : RunEnd) → RanTo end → EndsOrIsExcused end
    ends-so end ran =
        ran-ends trace tell (opening_of has.rolled.book has.policy) (trace has.rolled.book.disk).moment (trace has.rolled.book.disk).faults limits.migration limits.rounds
        (working_homes has.rolled.book.rollout.problem has.rolled.book.rollout.plan) before.ports end has.rolled.run.closed now.ports ran (provided end ran)

    module _ (o : RunOutcome) (halt : Halt) (is : answer ≡ ended.Unlevel o) (stop : o.end ≡ run.Stopped halt) where
      stopped-ran : RanTo (run.Stopped halt)
      stopped-ran = stopped-begun trace tell origin r limits.migration limits.rounds disk levelled before.ports now.ports answer has o halt is stop

      stop-excused : IsExcused halt.cause
      stop-excused = ends-so (run.Stopped halt) stopped-ran

      -- where no count has risen, only lack of memory stops it
      stop-wants : CountsNoFault tell (trace disk).faults (trace levelled).faults before now → IsWant halt.cause
      stop-wants counts =
          let ran = stopped-ran in
          let opening = opening_of has.rolled.book has.policy in
          let without : IsWithoutFault tell (Rose (trace has.rolled.book.disk).faults (trace has.rolled.run.closed.disk).faults) (first_sessions ran.berths) now.ports.kept = record {
            disk = λ rose. counts.disk (rose_since (trace disk).faults (trace has.rolled.book.disk).faults (trace levelled).faults has.rolled.opened.on.count (subst (λ (d : D). Rose (trace has.rolled.book.disk).faults (trace d).faults) (sym has.rolled.run.back) rose));
            ports = λ t at back kept. of_some (λ (waiting : ℕ → Option P). (switch : ℕ) (first back : P) → waiting switch ≡ Some first → now.ports.kept switch ≡ Some back → Rose (tell first).faults (tell back).faults → ⊥)
                before.ports.waiting served.ports served.told counts.ports t.switch t.port back
                (All-contains (λ (u : SessionView P). served.ports u.switch ≡ Some u.port) (first_sessions ran.berths) t
                (opened-waited tell r limits.migration found served.ports ran.berths (subst (λ (w : Option (ℕ → Option P)). AreGiven tell w ran.berths) served.told ran.given)) at)
                kept;
          } in
          only-want halt.cause stop-excused
          (no-fault tell (Rose (trace has.rolled.book.disk).faults (trace has.rolled.run.closed.disk).faults) (first_sessions ran.berths) now.ports.kept without opening limits.migration (homes_of opening.rollout.problem) limits.rounds ran.log halt.cause ran.reason)

    -- what a levelling has left is a journal
    placing-never : (first : ℕ) (image : List ℕ) → (trace levelled).bytes ≡ Some image → IsSeen trace levelled → RanTo has.run.end → IsNeither first image → ⊥
    placing-never first image told seen ran neither =
        let images : HasImages trace (opening_of has.rolled.book has.policy) (trace has.rolled.book.disk).moment (trace has.rolled.book.disk).faults levelled ran.log =
        subst (λ (d : D). HasImages trace (opening_of has.rolled.book has.policy) (trace has.rolled.book.disk).moment (trace has.rolled.book.disk).faults d ran.log) (sym has.rolled.run.back) ran.images in
        let list = here trace (opening_of has.rolled.book has.policy) ran.log limits.migration [] (trace has.rolled.book.disk).moment (trace has.rolled.book.disk).faults levelled images image told seen in
        let no : ◌≡◌ {A = Option Kept} None (Some list.has.kept) = sym neither.no_journal ∙ list.has.is in
        cc

  -- ---- how it ends

  module _ (e : CommandEnd) (sink : status_of e ≡ 7 → ⊥) (memory : status_of e ≡ 12 → ⊥) (device : Rose (trace disk).faults (trace disk_now).faults → status_of e ≡ 8 → ⊥) (fleet : Rose before.faults now.faults → status_of e ≡ 9 → ⊥)
      (stop : (network : IsNetwork r.problem) (valid : is_valid_plan r.problem r.plan ≡ true) (small : limits.migration + 1 < 2 ^ 32) (levelled : D) (answer : LevelAnswer) → HasLevelledTo levelled answer → disk_now ≡ levelled
      → (o : RunOutcome) (halt : Halt) → answer ≡ ended.Unlevel o → o.end ≡ run.Stopped halt → e ≡ ending_of_stop o.plan halt.cause → ⊥)
      (told : IsSome (trace disk_now).bytes) where
    -- placing fails for the disk and for lack of memory alone
    unplaced-never : (network : IsNetwork r.problem) (valid : is_valid_plan r.problem r.plan ≡ true) (small : limits.migration + 1 < 2 ^ 32) (levelled : D) (answer : LevelAnswer) (has : HasLevelledTo levelled answer)
        → is_run answer ≡ true → IsSeen trace levelled → (image : List ℕ) → (trace levelled).bytes ≡ Some image
        → (why : JournalFault) → IsNotPlaced trace why levelled disk_now → e ≡ ending_of_journal why → (e ≡ DiskFault → Rose (trace disk).faults (trace disk_now).faults) → ⊥
    unplaced-never network valid small levelled answer has begun seen image is (fault.NotJournal first) left ends rose =
        placing-never network valid small levelled answer has first image is seen (run-begun trace tell origin r limits.migration limits.rounds disk levelled before.ports now.ports answer has begun)
        (of_some (IsNeither first) (trace levelled).bytes image is left.why)
    unplaced-never network valid small levelled answer has begun seen image is (fault.OtherPlan kept wanted) left ends rose = left.why
    unplaced-never network valid small levelled answer has begun seen image is (fault.Illegal place) left ends rose = left.why
    unplaced-never network valid small levelled answer has begun seen image is fault.BadStart left ends rose = left.why
    unplaced-never network valid small levelled answer has begun seen image is fault.Disk left ends rose = device (rose ends) (ap status_of ends)
    unplaced-never network valid small levelled answer has begun seen image is fault.Memory left ends rose = memory (ap status_of ends)

    takes-well : (other : Rollout) (start : List ℕ) (levelled : D) → TakesBack trace other limits.migration start levelled disk_now e out out_now
        → ((image : List ℕ) → (trace levelled).bytes ≡ Some image → IsSeen trace levelled → (why : JournalFault) → IsNotPlaced trace why levelled disk_now → e ≡ ending_of_journal why → ⊥)
        → status_of e ≡ 0
    takes-well other start levelled takes never = elim takes.ends as (λ _. status_of e ≡ 0) [
      | inl writes ↦ elim (follows-ends (Ok (back_text other)) e out out_now writes.follows memory) as (λ _. status_of e ≡ 0) [
        | inl done ↦ ap status_of done.0
        | inr cut ↦ absurd (sink (ap status_of cut.0))
      ]
      | inr none ↦
          let here_now = is-some (trace disk_now).bytes told in
          let was = was_told (trace levelled).bytes (trace disk_now).bytes here_now.0 takes.may.told here_now.1 in
          absurd (never was.0 was.1 takes.seen none.cause none.left none.is)
    ]

    -- one that isn't level doesn't end so
    unlevel-well : (network : IsNetwork r.problem) (valid : is_valid_plan r.problem r.plan ≡ true) (small : limits.migration + 1 < 2 ^ 32) (levels : Levels trace tell r origin limits disk disk_now before now e out out_now)
        (o : RunOutcome) → levels.answer ≡ ended.Unlevel o → disk_now ≡ levels.levelled → (end : RunEnd) → o.end ≡ end → is_level o.end ≡ false → e ≡ ending_at end o → status_of e ≡ 0
    unlevel-well network valid small levels o is back run.Finished same isnt ends = absurd (let no : true ≡ false = sym (ap is_level same) ∙ isnt in cc)
    unlevel-well network valid small levels o is back run.Held same isnt ends = absurd (let no : true ≡ false = sym (ap is_level same) ∙ isnt in cc)
    unlevel-well network valid small levels o is back (run.Stopped halt) same isnt ends =
        absurd (stop network valid small levels.levelled levels.answer levels.has back o halt is same ends)
    unlevel-well network valid small levels o is back (run.NoPort switch) same isnt ends =
        absurd (fleet (levels.no_port switch (subst (λ (a : LevelAnswer). LacksPort a switch) (sym is) same)) (ap status_of ends))
    unlevel-well network valid small levels o is back run.Memory same isnt ends = absurd (memory (ap status_of ends))

    closes-well : (network : IsNetwork r.problem) (valid : is_valid_plan r.problem r.plan ≡ true) (small : limits.migration + 1 < 2 ^ 32) (levels : Levels trace tell r origin limits disk disk_now before now e out out_now)
        (a : LevelAnswer) → levels.answer ≡ a → Closes trace limits.migration a levels.levelled disk_now e out out_now → status_of e ≡ 0
    closes-well network valid small levels (ended.Level other start) is closes =
        takes-well other start levels.levelled closes
        (λ image at seen why left ends. unplaced-never network valid small levels.levelled levels.answer levels.has (ap is_run is) seen image at why left ends
        (λ fails. levels-rose trace tell r origin limits disk disk_now before now e out out_now fails levels))
    closes-well network valid small levels (ended.Unlevel o) is closes =
        let has = levels.has in
        unlevel-well network valid small levels o is closes.disk_is o.end refl
        (unlevel-not has.run o (start_of has.rolled.book.rollout has.rolled.book.history has.stage) (sym is ∙ has.tells)) closes.is

    none-well : FindsNoJournal trace r limits disk disk_now before now e out out_now → ⊥
    none-well none =
        unopened-never trace limits source source_now disk r found goes none.cause e
        (of_some (λ image. IsCause none.cause (digest_for r limits.migration) (verdict r (digest_for r limits.migration) image)) (trace disk).bytes goes.image goes.told none.left.refusal)
        none.is (λ is. device (none.left.failed is)) memory

    rolled-well : RollsBack trace tell r origin limits disk disk_now before now e out out_now → status_of e ≡ 0
    rolled-well rolls = elim rolls.ends as (λ _. status_of e ≡ 0) [
      | inl levels ↦ closes-well rolls.network rolls.valid rolls.small levels levels.answer refl levels.closes
      | inr none ↦ absurd (none-well none)
    ]

-- ---- by the disk as it was at first

module _ {D P : Type 0} (trace : D → DiskTrace) (tell : P → PortTrace)
    (origin : BackFrom) (limits : Limits) (source source_now : SourceTrace) (disk disk_now : D) (before now : FleetSeen P) (out out_now : Option (List ℕ)) (r : Rollout) (found : History)
    (goes : GoesOnFrom limits.migration source source_now (trace disk).bytes r found) (served : IsServedFor tell limits before.ports.waiting r found) where
  -- over a disk that tells its bytes at the end, too
  module _ (told : IsSome (trace disk_now).bytes) where
    abbrev StopsNever : CommandEnd → D → Type 0
    StopsNever e opened = (network : IsNetwork r.problem) (valid : is_valid_plan r.problem r.plan ≡ true) (small : limits.migration + 1 < 2 ^ 32) (levelled : D) (answer : LevelAnswer)
        → HasLevelled trace tell origin r (digest_for r limits.migration) limits.rounds opened before.ports now.ports levelled answer → disk_now ≡ levelled
        → (o : RunOutcome) (halt : Halt) → answer ≡ ended.Unlevel o → o.end ≡ run.Stopped halt → e ≡ ending_of_stop o.plan halt.cause → ⊥

    module _ (e : CommandEnd) (read : status_of e ≡ 6 → ⊥) (sink : status_of e ≡ 7 → ⊥) (memory : status_of e ≡ 12 → ⊥) (device : Rose (trace disk).faults (trace disk_now).faults → status_of e ≡ 8 → ⊥) (fleet : Rose before.faults now.faults → status_of e ≡ 9 → ⊥)
        (stop : (opened : D) → Opens (trace disk) (trace opened) → StopsNever e opened) where
      opened-well : OpensAndRollsBack trace tell r origin limits disk disk_now before now e out out_now → status_of e ≡ 0
      opened-well (inl fails) = absurd (device fails.failed (ap status_of fails.is))
      opened-well (inr begun) =
          rolled-well trace tell origin limits source source_now begun.opened disk_now before now out out_now r found (goes-opened trace limits source source_now disk r found goes begun.opened begun.opens) served
          e sink memory (λ rose. device (rose_since (trace disk).faults (trace begun.opened).faults (trace disk_now).faults begun.opens.count rose)) fleet (stop begun.opened begun.opens) told begun.rolls

      reverts-well : Reverts trace tell (IsInput source source_now) origin limits disk disk_now before now e out out_now → status_of e ≡ 0
      reverts-well (inl none) = absurd (unbegun-never trace limits source source_now disk r found goes e none.why read memory)
      reverts-well (inr rolled) =
          let same_input : goes.input ≡ rolled.input = told-within source source_now rolled.input goes.input rolled.given (rolled-within goes.input r goes.is) goes.told_input in
          let both : Ok r ≡ Ok rolled.r = sym goes.is ∙ (ap rollout_to same_input ∙ rolled.is) in
          let same : rolled.r ≡ r = sym (cc both) in
          opened-well (subst (λ (x : Rollout). OpensAndRollsBack trace tell x origin limits disk disk_now before now e out out_now) same rolled.rolls)

    -- by the status of an ending that is told by itself
    by-ending : (status : ℕ) → RevertsAs trace tell (IsInput source source_now) origin limits disk disk_now before now status out out_now → status ≢ 12
        → ((e : CommandEnd) → Reverts trace tell (IsInput source source_now) origin limits disk disk_now before now e out out_now → ((n : ℕ) → status ≢ n → status_of e ≡ n → ⊥) → status_of e ≡ 0) → status ≡ 0
    by-ending status rolls memory well =
        let tells : (n : ℕ) → status ≢ n → status_of rolls.told ≡ n → ⊥ = λ n other is. other (rolls.is_status ∙ is) in
        let same : rolls.told ≡ rolls.ending = sym (told-same rolls.ending rolls.told rolls.told_as (λ m. tells 12 memory (ap status_of m))) in
        rolls.is_status ∙ (ap status_of same ∙ well rolls.ending rolls.rolls (λ n other is. tells n other (ap status_of same ∙ is)))

    pub served-ends-well : (status : ℕ) → RevertsAs trace tell (IsInput source source_now) origin limits disk disk_now before now status out out_now
        → status ≢ 6 → status ≢ 7 → status ≢ 8 → status ≢ 9 → status ≢ 12 → status ≡ 0
    served-ends-well status rolls read sink device fleet memory =
        by-ending status rolls memory
        (λ e to over. reverts-well e (over 6 read) (over 7 sink) (over 12 memory) (λ rose. over 8 device) (λ rose. over 9 fleet)
        (λ opened opens network valid small levelled answer has left o halt is stop ends.
        excused-never e o.plan halt.cause ends
        (stop-excused trace tell origin limits source source_now opened disk_now before now out out_now r found (goes-opened trace limits source source_now disk r found goes opened opens) served network valid small levelled answer has o halt is stop)
        (over 8 device) (over 9 fleet) (over 12 memory)) to)

    pub counted-ends-well : CountsNoFault tell (trace disk).faults (trace disk_now).faults before now
        → (status : ℕ) → RevertsAs trace tell (IsInput source source_now) origin limits disk disk_now before now status out out_now
        → status ≢ 6 → status ≢ 7 → status ≢ 12 → status ≡ 0
    counted-ends-well counts status rolls read sink memory =
        by-ending status rolls memory
        (λ e to over. reverts-well e (over 6 read) (over 7 sink) (over 12 memory) (λ rose eight. counts.disk rose) (λ rose nine. counts.fleet rose)
        (λ opened opens network valid small levelled answer has left o halt is stop ends.
        wanting-never e o.plan halt.cause ends
        (stop-wants trace tell origin limits source source_now opened disk_now before now out out_now r found (goes-opened trace limits source source_now disk r found goes opened opens) served network valid small levelled answer has o halt is stop
        (record {
          disk = λ rose. counts.disk (rose_since (trace disk).faults (trace opened).faults (trace disk_now).faults opens.count (subst (λ (d : D). Rose (trace opened).faults (trace d).faults) (sym left) rose));
          fleet = counts.fleet;
          ports = counts.ports;
        }))
        (over 12 memory)) to)
