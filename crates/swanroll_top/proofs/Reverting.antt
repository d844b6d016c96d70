-- How a rollback follows from its input, and what is left where nothing was placed.
use Rattle.std.proofs.Common.{◌≡◌, ◌≤◌, ℕ, List, Bool, true, false, Option, Result, Ok, Err, IfOk, IfErr, refl, sym, ap, ◌∙◌, subst, inl, inr, arith}
use Rattle.rollout_rules.specs.Wan.{Rollout}
use Rattle.wan_edge.proofs.Faults.{rose_since}
use Rattle.disk_model.specs.Traces.{DiskTrace}
use Rattle.wan_edge.specs.Ports.{PortTrace}
use Rattle.wan_edge.specs.Streams.{Rose, SourceTrace}
use Rattle.intent_journal.specs.Placements.{IsPlacingFault}
use Rattle.intent_journal.specs.declared.fault.JournalFault.{JournalFault}
use Rattle.intent_journal.specs.declared.fault.JournalFault.TheVariants as fault
use Rattle.shared_book.specs.declared.note.Cause.{Cause}
use Rattle.shared_book.specs.declared.note.Cause.TheVariants as cause
use Rattle.shared_book.specs.declared.call_reply.Halt.{Halt}
use Rattle.shared_book.specs.Homes.{homes_of}
use Rattle.shared_book.specs.Opened.{opening_of}
use Rattle.switch_ports.specs.Berths.{FleetPorts}
use Rattle.switch_ports.specs.Homes.{working_homes}
use Rattle.rollout_report.specs.Journals.{digest_for}
use Rattle.controller_run.specs.Causes.{IsCause}
use Rattle.controller_run.specs.Ran.{Ran}
use Rattle.controller_run.specs.declared.end.RunEnd.{RunEnd}
use Rattle.controller_run.specs.declared.end.RunEnd.TheVariants as run
use Rattle.controller_run.specs.declared.outcome.RunOutcome.{RunOutcome}
use Rattle.controller_run.specs.declared.running.Limits.{Limits}
use Rattle.rollback_plan.specs.Turning.{back}
use Rattle.rollback_service.specs.Levellings.{HasLevelled, level_at, level_for, start_of}
use Rattle.rollback_service.specs.Placings.{HasPlaced, IsNotPlaced, IsSeen, MayPlace, kept_from}
use Rattle.rollback_service.specs.declared.answer.LevelAnswer.{LevelAnswer}
use Rattle.rollback_service.specs.declared.answer.LevelAnswer.TheVariants as level
use Rattle.rollback_service.specs.declared.origin.BackFrom.{BackFrom}
use Rattle.text_commands.specs.CommandEnds.{ending_of_journal, status_of}
use Rattle.text_commands.specs.Reading.{IsShortInput}
use Rattle.text_commands.specs.Answers.{rollout_in}
use Rattle.swanroll_top.specs.Reports.{ReadsDocument}
use Rattle.swanroll_top.specs.Rollbacks.{Closes, FindsNoJournal, Levels, Reverts, RevertsIn, TakesBack, back_text}
use Rattle.swanroll_top.specs.Rollouts.{FleetSeen, IsDiskFault, IsUnbegun, RefusesAs}
use Rattle.text_commands.specs.Runs.{Follows, IsInput}
use Rattle.swanroll_top.specs.Targets.{BeginsNothing}
use Rattle.text_commands.specs.declared.command_end.CommandEnd.{CommandEnd}
use Rattle.text_commands.specs.declared.command_end.CommandEnd.TheVariants.{DiskFault}
use Rattle.swanroll_top.proofs.Outcomes.{is_ran, journal-disk, ran-begun, rollout-disk, text-not-disk, unbegun-nothing}
use Rattle.text_commands.proofs.Programs.{follows-ends}
use Rattle.swanroll_top.proofs.Reporting.{reads-document, short-rollout}
use Rattle.swanroll_top.proofs.Rolling.{never-disk, unbegun}

-- ---- by the input

module _ {D P : Type 0} (trace : D → DiskTrace) (tell : P → PortTrace)
    (origin : BackFrom) (limits : Limits) (disk disk_now : D) (before now : FleetSeen P) (out out_now : Option (List ℕ)) where
  pub input-reverts : (source source_now : SourceTrace) (input : List ℕ) (e : CommandEnd) → IsShortInput source source_now input
      → RevertsIn trace tell (rollout_in input) origin limits disk disk_now before now e out out_now
      → Reverts trace tell (IsInput source source_now) origin limits disk disk_now before now e out out_now
  input-reverts source source_now input e short (inl refused) = inl (record { why = unbegun source source_now input e short refused.why; disk_is = refused.disk_is; fleet_is = refused.fleet_is })
  input-reverts source source_now input e short (inr begun) = inr (record {
    input = input;
    given = short.input;
    r = begun.0;
    is = short-rollout input short.within ∙ begun.1;
    rolls = begun.2;
  })

  -- after which input a disk failed
  pub reverts-behind : (source source_now : SourceTrace) (e : CommandEnd) → e ≡ DiskFault → Reverts trace tell (IsInput source source_now) origin limits disk disk_now before now e out out_now → ReadsDocument source source_now
  reverts-behind source source_now e is (inl none) =
      let why : RefusesAs (IsInput source source_now) DiskFault = subst (IsUnbegun (IsInput source source_now)) is none.why in
      absurd (never-disk why.input why.refused)
  reverts-behind source source_now e is (inr roll) = reads-document source source_now roll.input roll.r roll.given roll.is

-- ---- after a level

module _ {D : Type 0} (trace : D → DiskTrace) (r : Rollout) (migration : ℕ) (start : List ℕ) (disk disk_now : D) (answer : Result Rollout JournalFault)
    (seen : IsSeen trace disk) (may : MayPlace trace (kept_from r migration start) disk disk_now) where
  abbrev Placed : Rollout → Type 0
  Placed there = (there ≡ back r) × HasPlaced trace (kept_from r migration start) disk_now

  abbrev NotPlaced : JournalFault → Type 0
  NotPlaced why = IsNotPlaced trace why disk disk_now

  pub placed-takes : (there : Rollout) (e : CommandEnd) (out out_now : Option (List ℕ)) → answer ≡ Ok there → IfOk answer Placed
      → ((x : Rollout) → there ≡ back x → Follows (Ok (back_text x)) e out out_now) → TakesBack trace r migration start disk disk_now e out out_now
  placed-takes there e out out_now is placed follows =
      let both : Placed there = subst (λ (a : Result Rollout JournalFault). IfOk a Placed) is placed in
      record { seen = seen; may = may; ends = inl (record { placed = both.1; follows = follows r both.0 }) }

  pub unplaced-takes : (why : JournalFault) (e : CommandEnd) (out : Option (List ℕ)) → answer ≡ Err why → IfErr answer NotPlaced → e ≡ ending_of_journal why → TakesBack trace r migration start disk disk_now e out out
  unplaced-takes why e out is left ends =
      record { seen = seen; may = may; ends = inr (record { cause = why; left = subst (λ (a : Result Rollout JournalFault). IfErr a NotPlaced) is left; is = ends; silent = refl }) }

-- ---- a levelling that was begun

abbrev pub is_run : LevelAnswer → Bool
is_run (level.Level r start) = true
is_run (level.Unlevel o) = is_ran o.end

-- an answer tells whether the run was begun
level-ran : (end : RunEnd) (o : RunOutcome) (start : List ℕ) → o.end ≡ end → is_run (level_at end o start) ≡ is_ran end
level-ran run.Finished o start same = refl
level-ran run.Held o start same = refl
level-ran (run.Stopped halt) o start same = ap is_ran same
level-ran (run.NoPort switch) o start same = ap is_ran same
level-ran run.Memory o start same = ap is_ran same

-- after one that didn't level it, what the run has come to is told, and that was no level
abbrev pub is_level : RunEnd → Bool
is_level run.Finished = true
is_level run.Held = true
is_level (run.Stopped halt) = false
is_level (run.NoPort switch) = false
is_level run.Memory = false

unlevel-at : (end : RunEnd) (made o : RunOutcome) (start : List ℕ) → level.Unlevel o ≡ level_at end made start → (o ≡ made) × (is_level end ≡ false)
unlevel-at run.Finished made o start is = absurd cc
unlevel-at run.Held made o start is = absurd cc
unlevel-at (run.Stopped halt) made o start is = (cc, refl)
unlevel-at (run.NoPort switch) made o start is = (cc, refl)
unlevel-at run.Memory made o start is = (cc, refl)

pub unlevel-not : (made o : RunOutcome) (start : List ℕ) → level.Unlevel o ≡ level_for made start → is_level o.end ≡ false
unlevel-not made o start is =
    let both = unlevel-at made.end made o start is in
    ap (λ (x : RunOutcome). is_level x.end) both.0 ∙ both.1

unlevel-is : (made o : RunOutcome) (start : List ℕ) → level.Unlevel o ≡ level_for made start → o ≡ made
unlevel-is made o start is = (unlevel-at made.end made o start is).0

module _ {D P : Type 0} (trace : D → DiskTrace) (tell : P → PortTrace)
    (origin : BackFrom) (r : Rollout) (migration rounds : ℕ) (disk levelled : D) (before now : FleetPorts P) (answer : LevelAnswer)
    (has : HasLevelled trace tell origin r (digest_for r migration) rounds disk before now levelled answer) where
  abbrev pub Begun : RunEnd → Type 0
  Begun end = Ran trace tell (opening_of has.rolled.book has.policy) (trace has.rolled.book.disk).moment (trace has.rolled.book.disk).faults migration rounds
      (working_homes has.rolled.book.rollout.problem has.rolled.book.rollout.plan) before end has.rolled.run.closed now

  ran-is : is_run answer ≡ is_ran has.run.end
  ran-is = ap is_run has.tells ∙ level-ran has.run.end has.run (start_of has.rolled.book.rollout has.rolled.book.history has.stage) refl

  pub run-begun : is_run answer ≡ true → Begun has.run.end
  unfolding digest_for
  run-begun is =
      ran-begun tell (working_homes has.rolled.book.rollout.problem has.rolled.book.rollout.plan) has.rolled.book has.rolled.run.closed before now Begun has.run.end (sym ran-is ∙ is) has.rolled.run.ran

  pub run-unbegun : is_run answer ≡ false → BeginsNothing tell before now
  run-unbegun isnt =
      let book = has.rolled.book in
      unbegun-nothing tell (working_homes book.rollout.problem book.rollout.plan) book has.rolled.run.closed before now
      (Ran trace tell (opening_of book has.policy) (trace book.disk).moment (trace book.disk).faults (digest_for r migration).migration rounds
      (working_homes book.rollout.problem book.rollout.plan) before has.run.end has.rolled.run.closed now)
      has.run.end (sym ran-is ∙ isnt) has.rolled.run.ran

  -- no failure of the disk was taken back
  faults-later : is_run answer ≡ true → (trace disk).faults ≤ (trace levelled).faults
  faults-later is =
      let ran = run-begun is in
      subst (λ (d : D). (trace disk).faults ≤ (trace d).faults) (sym has.rolled.run.back) (omega (arith, has.rolled.opened.on.count, ran.images.more))

  -- a run that was stopped
  pub stopped-begun : (o : RunOutcome) (halt : Halt) → answer ≡ level.Unlevel o → o.end ≡ run.Stopped halt → Begun (run.Stopped halt)
  stopped-begun o halt is stop =
      let same : o ≡ has.run = unlevel-is has.run o (start_of has.rolled.book.rollout has.rolled.book.history has.stage) (sym is ∙ has.tells) in
      subst Begun (sym (ap (λ (x : RunOutcome). x.end) same) ∙ stop) (run-begun (ap is_run is ∙ ap is_ran stop))

  stopped-rose : (o : RunOutcome) (halt : Halt) → answer ≡ level.Unlevel o → o.end ≡ run.Stopped halt → halt.cause ≡ cause.Disk → Rose (trace disk).faults (trace levelled).faults
  stopped-rose o halt is stop disk_is =
      let opening = opening_of has.rolled.book has.policy in
      let ran = stopped-begun o halt is stop in
      let rose : Rose (trace has.rolled.book.disk).faults (trace has.rolled.run.closed.disk).faults =
      subst (λ (why : Cause). IsCause tell opening migration (homes_of opening.rollout.problem) rounds (Rose (trace has.rolled.book.disk).faults (trace has.rolled.run.closed.disk).faults) ran.log ran.reason.first why ran.reason.now) disk_is ran.reason.holds in
      rose_since (trace disk).faults (trace has.rolled.book.disk).faults (trace levelled).faults has.rolled.opened.on.count
      (subst (λ (d : D). Rose (trace has.rolled.book.disk).faults (trace d).faults) (sym has.rolled.run.back) rose)

  -- a fault of the disk is a stop
  pub unlevel-rose : (o : RunOutcome) → answer ≡ level.Unlevel o → (end : RunEnd) → o.end ≡ end → IsDiskFault end → Rose (trace disk).faults (trace levelled).faults
  unlevel-rose o is run.Finished same fault = absurd fault
  unlevel-rose o is run.Held same fault = absurd fault
  unlevel-rose o is (run.Stopped halt) same fault = stopped-rose o halt is same fault
  unlevel-rose o is (run.NoPort switch) same fault = absurd fault
  unlevel-rose o is run.Memory same fault = absurd fault

-- ---- a fault of the disk

-- where placing failed for the disk, it has counted that
place-rose : {D : Type 0} (trace : D → DiskTrace) (why : JournalFault) (old new : D) → IsNotPlaced trace why old new → why ≡ fault.Disk → Rose (trace old).faults (trace new).faults
place-rose trace why old new left is = subst (λ (w : JournalFault). IsPlacingFault w (trace old).bytes (trace old).faults (trace new).faults) is left.why

module _ {D P : Type 0} (trace : D → DiskTrace) (tell : P → PortTrace)
    (r : Rollout) (origin : BackFrom) (limits : Limits) (disk disk_now : D) (before now : FleetSeen P) (e : CommandEnd) (out out_now : Option (List ℕ)) (fails : e ≡ DiskFault) where
  takes-rose : (levelled : D) (other : Rollout) (start : List ℕ) → TakesBack trace other limits.migration start levelled disk_now e out out_now → Rose (trace levelled).faults (trace disk_now).faults
  takes-rose levelled other start takes = elim takes.ends as (λ c. Rose (trace levelled).faults (trace disk_now).faults) [
    | inl writes ↦
        absurd (text-not-disk (back_text other) e out out_now
        (follows-ends (Ok (back_text other)) e out out_now writes.follows (λ (twelve : status_of e ≡ 12). let eight : status_of e ≡ 8 = ap status_of fails in omega (arith, twelve, eight))) fails)
    | inr none ↦ place-rose trace none.cause levelled disk_now none.left (journal-disk none.cause (sym none.is ∙ fails))
  ]

  closes-rose : (levelled : D) (answer : LevelAnswer) (has : HasLevelled trace tell origin r (digest_for r limits.migration) limits.rounds disk before.ports now.ports levelled answer)
      → Closes trace limits.migration answer levelled disk_now e out out_now → Rose (trace disk).faults (trace disk_now).faults
  closes-rose levelled (level.Level other start) has closes =
      rose_since (trace disk).faults (trace levelled).faults (trace disk_now).faults
      (faults-later trace tell origin r limits.migration limits.rounds disk levelled before.ports now.ports (level.Level other start) has refl) (takes-rose levelled other start closes)
  closes-rose levelled (level.Unlevel o) has closes =
      subst (λ (d : D). Rose (trace disk).faults (trace d).faults) (sym closes.disk_is)
      (unlevel-rose trace tell origin r limits.migration limits.rounds disk levelled before.ports now.ports (level.Unlevel o) has o refl o.end refl (rollout-disk o (sym closes.is ∙ fails)))

  pub levels-rose : Levels trace tell r origin limits disk disk_now before now e out out_now → Rose (trace disk).faults (trace disk_now).faults
  levels-rose levels = closes-rose levels.levelled levels.answer levels.has levels.closes

  pub none-rose : FindsNoJournal trace r limits disk disk_now before now e out out_now → Rose (trace disk).faults (trace disk_now).faults
  none-rose none = none.left.failed (journal-disk none.cause (sym none.is ∙ fails))
