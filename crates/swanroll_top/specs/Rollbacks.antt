-- What the command `rollback` brings about. A disk and a port are given by what they tell.
use Rattle.std.specs.Prelude.{◌≡◌, ◌⊎◌, ◌+◌, ◌<◌, ◌^◌, ℕ, List, [], ◌∷◌, ◌++◌, Option, Result, Ok}
use Rattle.rollout_rules.specs.Wan.{Rollout}
use Rattle.rollout_rules.specs.Network.{IsNetwork}
use Rattle.disk_model.specs.Traces.{DiskTrace}
use Rattle.disk_mirror.specs.Openings.{IsTold, Opens, OpensWithin}
use Rattle.intent_journal.specs.Openings.{IsLeft}
use Rattle.intent_journal.specs.declared.fault.JournalFault.{JournalFault}
use Rattle.problem_json.specs.Writing.{document_text}
use Rattle.wan_edge.specs.Ports.{PortTrace}
use Rattle.wan_edge.specs.Streams.{Rose}
use Rattle.rollback_plan.specs.Turning.{back_plan, back_problem}
use Rattle.rollout_report.specs.Journals.{digest_for}
use Rattle.controller_run.specs.declared.running.Limits.{Limits}
use Rattle.rollback_service.specs.Levellings.{HasLevelled, LacksPort}
use Rattle.rollback_service.specs.Placings.{HasPlaced, IsNotPlaced, IsSeen, MayPlace, kept_from}
use Rattle.rollback_service.specs.declared.answer.LevelAnswer.{LevelAnswer}
use Rattle.rollback_service.specs.declared.answer.LevelAnswer.TheVariants as level
use Rattle.rollback_service.specs.declared.origin.BackFrom.{BackFrom}
use Rattle.text_commands.specs.CommandEnds.{ending_of_journal, status_of}
use Rattle.retarget_service.specs.JournalRoom.{journal_room}
use Rattle.text_commands.specs.Lines.{IsToldAs}
use Rattle.text_commands.specs.Answers.{rollout_to}
use Rattle.swanroll_top.specs.Rollouts.{FailsToOpen, FleetSeen, IsRefused, IsUnbegun, LeavesAll, ending_of_rollout}
use Rattle.text_commands.specs.Runs.{Follows}
use Rattle.text_commands.specs.Safety.{IsValid}
use Rattle.text_commands.specs.declared.command_end.CommandEnd.{CommandEnd}

-- the document of the way back of a rollout, and a line feed
abbrev pub back_text : Rollout → List ℕ
back_text r = document_text (back_problem r.problem) (back_plan r.plan) ++ 10 ∷ []

-- ---- after levelling, which left this disk

-- A journal of the way back from this start was placed, and then the document of the way back was written, or a part of it, or nothing for lack of memory.
pub record WritesBack {D : Type 0} (trace : D → DiskTrace) (r : Rollout) (migration : ℕ) (start : List ℕ) (disk_now : D) (ending : CommandEnd) (out out_now : Option (List ℕ)) : Type 0 where
  pub placed : HasPlaced trace (kept_from r migration start) disk_now
  pub follows : Follows (Ok (back_text r)) ending out out_now

-- It wasn't placed, the run ends as the cause says, and nothing was written.
pub record FailsToPlace {D : Type 0} (trace : D → DiskTrace) (disk disk_now : D) (ending : CommandEnd) (out out_now : Option (List ℕ)) : Type 0 where
  pub cause : JournalFault
  pub left : IsNotPlaced trace cause disk disk_now
  pub is : ending ≡ ending_of_journal cause
  pub silent : out_now ≡ out

-- Either way, a crash meanwhile left what it might have left before, or an image that placing this journal leaves.
pub record TakesBack {D : Type 0} (trace : D → DiskTrace) (r : Rollout) (migration : ℕ) (start : List ℕ) (disk disk_now : D) (ending : CommandEnd) (out out_now : Option (List ℕ)) : Type 0 where
  pub seen : IsSeen trace disk
  pub may : MayPlace trace (kept_from r migration start) disk disk_now
  pub ends : WritesBack trace r migration start disk_now ending out out_now ⊎ FailsToPlace trace disk disk_now ending out out_now

-- The rollout isn't level, and the run ends so; the disk is as it was.
pub record LeavesUnlevel {D : Type 0} (why : CommandEnd) (disk disk_now : D) (ending : CommandEnd) (out out_now : Option (List ℕ)) : Type 0 where
  pub is : ending ≡ why
  pub disk_is : disk_now ≡ disk
  pub silent : out_now ≡ out

-- what follows from how levelling has gone: after a level alone something is placed
abbrev pub Closes : {D : Type 0} → (D → DiskTrace) → ℕ → LevelAnswer → D → D → CommandEnd → Option (List ℕ) → Option (List ℕ) → Type 0
Closes trace migration (level.Level r start) disk disk_now ending out out_now = TakesBack trace r migration start disk disk_now ending out out_now
Closes trace migration (level.Unlevel outcome) disk disk_now ending out out_now = LeavesUnlevel (ending_of_rollout outcome) disk disk_now ending out out_now

-- ---- from a disk that was opened

-- The rollout was levelled from what this disk had, over the ports of a fleet, and what follows from that was done.
pub record Levels {D P : Type 0} (trace : D → DiskTrace) (tell : P → PortTrace)
    (r : Rollout) (origin : BackFrom) (limits : Limits) (disk disk_now : D) (before now : FleetSeen P) (ending : CommandEnd) (out out_now : Option (List ℕ)) : Type 0 where
  pub levelled : D
  pub answer : LevelAnswer
  pub has : HasLevelled trace tell origin r (digest_for r limits.migration) limits.rounds disk before.ports now.ports levelled answer
  pub no_port : (switch : ℕ) → LacksPort answer switch → Rose before.faults now.faults
  pub closes : Closes trace limits.migration answer levelled disk_now ending out out_now

-- No journal of it was opened there, and no port.
pub record FindsNoJournal {D P : Type 0} (trace : D → DiskTrace)
    (r : Rollout) (limits : Limits) (disk disk_now : D) (before now : FleetSeen P) (ending : CommandEnd) (out out_now : Option (List ℕ)) : Type 0 where
  pub cause : JournalFault
  pub left : IsLeft trace r (digest_for r limits.migration) disk cause disk_now
  pub is : ending ≡ ending_of_journal cause
  pub fleet_is : now ≡ before
  pub silent : out_now ≡ out

-- Either way, of a rollout whose plan is valid, and of a migration that has a next one.
pub record RollsBack {D P : Type 0} (trace : D → DiskTrace) (tell : P → PortTrace)
    (r : Rollout) (origin : BackFrom) (limits : Limits) (disk disk_now : D) (before now : FleetSeen P) (ending : CommandEnd) (out out_now : Option (List ℕ)) : Type 0 where
  pub network : IsNetwork r.problem
  pub valid : IsValid r.problem r.plan
  pub small : limits.migration + 1 < 2 ^ 32
  pub ends : Levels trace tell r origin limits disk disk_now before now ending out out_now
      ⊎ FindsNoJournal trace r limits disk disk_now before now ending out out_now

-- The disk was opened, tells its bytes since, no more than there is room for a journal of this rollout, and the rollout was rolled back from these.
pub record RollsBackOpened {D P : Type 0} (trace : D → DiskTrace) (tell : P → PortTrace)
    (r : Rollout) (origin : BackFrom) (limits : Limits) (disk disk_now : D) (before now : FleetSeen P) (ending : CommandEnd) (out out_now : Option (List ℕ)) : Type 0 where
  pub opened : D
  pub opens : Opens (trace disk) (trace opened)
  pub told : IsTold (trace opened).bytes
  pub within : OpensWithin (journal_room r) (trace disk) (trace opened)
  pub rolls : RollsBack trace tell r origin limits opened disk_now before now ending out out_now

-- that, or the disk couldn't be opened
abbrev pub OpensAndRollsBack : {D P : Type 0} → (D → DiskTrace) → (P → PortTrace)
    → Rollout → BackFrom → Limits → D → D → FleetSeen P → FleetSeen P → CommandEnd → Option (List ℕ) → Option (List ℕ) → Type 0
OpensAndRollsBack trace tell r origin limits disk disk_now before now ending out out_now =
    FailsToOpen trace disk disk_now before now ending out out_now
    ⊎ RollsBackOpened trace tell r origin limits disk disk_now before now ending out out_now

-- ---- by the input

-- The input is a rollout, and it was rolled back, unless its disk couldn't be opened.
pub record RollsBackOutOf {D P : Type 0} (trace : D → DiskTrace) (tell : P → PortTrace)
    (Given : List ℕ → Type 0) (origin : BackFrom) (limits : Limits) (disk disk_now : D) (before now : FleetSeen P) (ending : CommandEnd) (out out_now : Option (List ℕ)) : Type 0 where
  pub input : List ℕ
  pub given : Given input
  pub r : Rollout
  pub is : rollout_to input ≡ Ok r
  pub rolls : OpensAndRollsBack trace tell r origin limits disk disk_now before now ending out out_now

-- that, or nothing was begun
abbrev pub Reverts : {D P : Type 0} → (D → DiskTrace) → (P → PortTrace)
    → (List ℕ → Type 0) → BackFrom → Limits → D → D → FleetSeen P → FleetSeen P → CommandEnd → Option (List ℕ) → Option (List ℕ) → Type 0
Reverts trace tell Given origin limits disk disk_now before now ending out out_now =
    LeavesAll (IsUnbegun Given ending) disk disk_now before now
    ⊎ RollsBackOutOf trace tell Given origin limits disk disk_now before now ending out out_now

-- the same of an input that is this rollout
abbrev pub RevertsIn : {D P : Type 0} → (D → DiskTrace) → (P → PortTrace)
    → Result Rollout CommandEnd → BackFrom → Limits → D → D → FleetSeen P → FleetSeen P → CommandEnd → Option (List ℕ) → Option (List ℕ) → Type 0
RevertsIn trace tell rollout origin limits disk disk_now before now ending out out_now =
    LeavesAll (IsRefused rollout ending) disk disk_now before now
    ⊎ ((r : Rollout) × (rollout ≡ Ok r) × OpensAndRollsBack trace tell r origin limits disk disk_now before now ending out out_now)

-- the same by the status
pub record RevertsAs {D P : Type 0} (trace : D → DiskTrace) (tell : P → PortTrace)
    (Given : List ℕ → Type 0) (origin : BackFrom) (limits : Limits) (disk disk_now : D) (before now : FleetSeen P) (status : ℕ) (out out_now : Option (List ℕ)) : Type 0 where
  pub ending : CommandEnd
  pub told : CommandEnd
  pub told_as : IsToldAs ending told
  pub is_status : status ≡ status_of told
  pub rolls : Reverts trace tell Given origin limits disk disk_now before now ending out out_now
