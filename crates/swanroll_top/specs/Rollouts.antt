-- What the command `run` brings about. A disk and a port are given by what they tell.
use Rattle.std.specs.Prelude.{◌≡◌, ◌⊎◌, ⊤, ◌↔◌, ◌<◌, ◌^◌, Bool, true, false, ℕ, List, ◌++◌, codes, decimal, Option, Result, Ok, Err, IfOk, IfErr}
use Rattle.rollout_rules.specs.Wan.{Rollout}
use Rattle.rollout_rules.specs.Network.{IsNetwork}
use Rattle.rollout_rules.specs.declared.op.OpView.{OpView}
use Rattle.disk_model.specs.Traces.{DiskTrace}
use Rattle.disk_mirror.specs.Openings.{IsTold, Opens, OpensWithin}
use Rattle.intent_journal.specs.declared.fault.JournalFault.{JournalFault}
use Rattle.shared_book.specs.declared.note.Cause.{Cause}
use Rattle.shared_book.specs.declared.note.Cause.TheVariants as cause
use Rattle.wan_edge.specs.Ports.{PortTrace}
use Rattle.wan_edge.specs.Streams.{Rose, SourceTrace}
use Rattle.wan_edge.specs.Fleets.{FleetTrace}
use Rattle.switch_ports.specs.Berths.{FleetPorts, ports_of}
use Rattle.rollout_report.specs.Journals.{digest_for}
use Rattle.controller_run.specs.declared.running.Limits.{Limits}
use Rattle.intent_journal.specs.Openings.{IsLeft}
use Rattle.controller_run.specs.RolloutEnds.{HasRolled}
use Rattle.controller_run.specs.declared.end.RunEnd.{RunEnd}
use Rattle.controller_run.specs.declared.end.RunEnd.TheVariants as run
use Rattle.controller_run.specs.declared.outcome.RunOutcome.{RunOutcome}
use Rattle.text_commands.specs.CommandEnds.{ending_of_journal, status_of}
use Rattle.retarget_service.specs.JournalRoom.{journal_room}
use Rattle.text_commands.specs.Lines.{IsToldAs}
use Rattle.text_commands.specs.Answers.{rollout_to}
use Rattle.text_commands.specs.Runs.{Follows, IsInput}
use Rattle.text_commands.specs.Safety.{IsValid}
use Rattle.text_commands.specs.Taken.{IsValidDocument}
use Rattle.text_commands.specs.declared.command_end.CommandEnd.{CommandEnd}
use Rattle.text_commands.specs.declared.command_end.CommandEnd.TheVariants.{DiskFault, Done, NotFinished, OutOfMemory, ReadFault, Refused, WriteFault}
use Rattle.text_commands.specs.declared.unfinished.Unfinished.TheVariants.{RoundsSpent, PortFault, Above, NotMine, NoAnswer, Held}

-- how many operations there are, and how many entries the journal had at first
abbrev pub finished_line : ℕ → ℕ → List ℕ
finished_line operations found = codes "finished: operations " ++ decimal operations ++ codes ", found " ++ decimal found ++ codes "\n"

-- how a run ends that was stopped for this cause
abbrev pub ending_of_stop : Rollout → Cause → CommandEnd
ending_of_stop r (cause.Spent rounds item number) = NotFinished (RoundsSpent rounds item number)
ending_of_stop r (cause.Port switch) = NotFinished (PortFault r switch)
ending_of_stop r (cause.Above item held begun) = NotFinished (Above item held begun)
ending_of_stop r (cause.NotMine switch item) = NotFinished (NotMine r switch item)
ending_of_stop r (cause.NoAnswer switch byte) = NotFinished (NoAnswer r switch byte)
ending_of_stop r cause.Disk = DiskFault
ending_of_stop r cause.Memory = OutOfMemory

-- how a command ends whose rollout has come to this
abbrev pub ending_at : RunEnd → RunOutcome → CommandEnd
ending_at run.Finished outcome = Done
ending_at run.Held outcome = NotFinished (Held outcome.left)
ending_at (run.Stopped halt) outcome = ending_of_stop outcome.plan halt.cause
ending_at (run.NoPort switch) outcome = NotFinished (PortFault outcome.plan switch)
ending_at run.Memory outcome = OutOfMemory

abbrev pub ending_of_rollout : RunOutcome → CommandEnd
ending_of_rollout outcome = ending_at outcome.end outcome

-- the line of a rollout that is finished, or how the run ends without one
abbrev pub line_at : RunEnd → RunOutcome → Result (List ℕ) CommandEnd
line_at run.Finished outcome = Ok (finished_line outcome.operations outcome.found)
line_at end outcome = Err (ending_at end outcome)

abbrev pub line_or_ending : RunOutcome → Result (List ℕ) CommandEnd
line_or_ending outcome = line_at outcome.end outcome

-- the same where the journal may not have been opened: then the run ends as the cause says
abbrev pub by_answer : (RunOutcome → Result (List ℕ) CommandEnd) → Result RunOutcome JournalFault → Result (List ℕ) CommandEnd
by_answer line (Ok outcome) = line outcome
by_answer line (Err why) = Err (ending_of_journal why)

-- the end that tells a fault of the disk
abbrev pub IsDiskFault : RunEnd → Type 0
IsDiskFault run.Finished = ⊥
IsDiskFault run.Held = ⊥
IsDiskFault (run.Stopped halt) = halt.cause ≡ cause.Disk
IsDiskFault (run.NoPort switch) = ⊥
IsDiskFault run.Memory = ⊥

-- ---- what becomes of the disk and of the ports

-- what a fleet tells: its ports, and how often it has failed
pub record FleetSeen (P : Type 0) : Type 0 where
  pub ports : FleetPorts P
  pub faults : ℕ

abbrev pub fleet_of : {P G : Type 0} → FleetTrace P G → FleetSeen P
fleet_of fleet = record { ports = ports_of fleet; faults = fleet.faults }

-- The rollout of an input, whose plan is valid, was run from what its disk had, over the ports of a fleet, and the run ends as the answer says.
-- Where no journal was opened, no port was; where a port is missing, the fleet failed to give it.
pub record RollsOut {D P : Type 0} (trace : D → DiskTrace) (tell : P → PortTrace)
    (r : Rollout) (limits : Limits) (policy : OpView → ℕ) (disk disk_now : D) (before now : FleetSeen P) (ending : CommandEnd) (out out_now : Option (List ℕ)) : Type 0 where
  pub network : IsNetwork r.problem
  pub valid : IsValid r.problem r.plan
  pub small : limits.migration < 2 ^ 32
  pub answer : Result RunOutcome JournalFault
  pub rolled : IfOk answer (λ outcome. HasRolled trace tell r (digest_for r limits.migration) policy limits.rounds disk before.ports now.ports disk_now outcome)
  pub unopened : IfErr answer (λ why. IsLeft trace r (digest_for r limits.migration) disk why disk_now × (now ≡ before))
  pub no_port : IfOk answer (λ outcome. (switch : ℕ) → outcome.end ≡ run.NoPort switch → Rose before.faults now.faults)
  pub follows : Follows (by_answer line_or_ending answer) ending out out_now

-- The disk couldn't be opened, which it counted. Nothing was begun.
pub record FailsToOpen {D P : Type 0} (trace : D → DiskTrace) (disk disk_now : D) (before now : FleetSeen P) (ending : CommandEnd) (out out_now : Option (List ℕ)) : Type 0 where
  pub is : ending ≡ DiskFault
  pub opens : Opens (trace disk) (trace disk_now)
  pub failed : Rose (trace disk).faults (trace disk_now).faults
  pub fleet_is : now ≡ before
  pub silent : out_now ≡ out

-- The disk was opened, tells its bytes since, no more than there is room for a journal of this rollout, and the rollout was run from these.
pub record RollsOpened {D P : Type 0} (trace : D → DiskTrace) (tell : P → PortTrace)
    (r : Rollout) (limits : Limits) (policy : OpView → ℕ) (disk disk_now : D) (before now : FleetSeen P) (ending : CommandEnd) (out out_now : Option (List ℕ)) : Type 0 where
  pub opened : D
  pub opens : Opens (trace disk) (trace opened)
  pub told : IsTold (trace opened).bytes
  pub within : OpensWithin (journal_room r) (trace disk) (trace opened)
  pub rolls : RollsOut trace tell r limits policy opened disk_now before now ending out out_now

-- either way
abbrev pub OpensAndRolls : {D P : Type 0} → (D → DiskTrace) → (P → PortTrace)
    → Rollout → Limits → (OpView → ℕ) → D → D → FleetSeen P → FleetSeen P → CommandEnd → Option (List ℕ) → Option (List ℕ) → Type 0
OpensAndRolls trace tell r limits policy disk disk_now before now ending out out_now =
    FailsToOpen trace disk disk_now before now ending out out_now
    ⊎ RollsOpened trace tell r limits policy disk disk_now before now ending out out_now

-- ---- by the input: which bytes that may be is given by a test on them, as that they are what was read

-- the input is no document with a valid plan, and this is how it is refused
pub record RefusesAs (Given : List ℕ → Type 0) (ending : CommandEnd) : Type 0 where
  pub input : List ℕ
  pub given : Given input
  pub refused : rollout_to input ≡ Err ending

-- why nothing was begun: the source failed, memory ran out, or the input was refused
abbrev pub IsUnbegun : (List ℕ → Type 0) → CommandEnd → Type 0
IsUnbegun Given ReadFault = ⊤
IsUnbegun Given OutOfMemory = ⊤
IsUnbegun Given ending = RefusesAs Given ending

abbrev pub IsRefused : Result Rollout CommandEnd → CommandEnd → Type 0
IsRefused rollout OutOfMemory = ⊤
IsRefused rollout ending = rollout ≡ Err ending

-- then the disk and the fleet are as they were
pub record LeavesAll {D P : Type 0} (cause : Type 0) (disk disk_now : D) (before now : FleetSeen P) : Type 0 where
  pub why : cause
  pub disk_is : disk_now ≡ disk
  pub fleet_is : now ≡ before

-- The input is a rollout, and it was run, unless its disk couldn't be opened.
pub record RollsOutOf {D P : Type 0} (trace : D → DiskTrace) (tell : P → PortTrace)
    (Given : List ℕ → Type 0) (limits : Limits) (policy : OpView → ℕ) (disk disk_now : D) (before now : FleetSeen P) (ending : CommandEnd) (out out_now : Option (List ℕ)) : Type 0 where
  pub input : List ℕ
  pub given : Given input
  pub r : Rollout
  pub is : rollout_to input ≡ Ok r
  pub rolls : OpensAndRolls trace tell r limits policy disk disk_now before now ending out out_now

-- either way
abbrev pub Rolls : {D P : Type 0} → (D → DiskTrace) → (P → PortTrace)
    → (List ℕ → Type 0) → Limits → (OpView → ℕ) → D → D → FleetSeen P → FleetSeen P → CommandEnd → Option (List ℕ) → Option (List ℕ) → Type 0
Rolls trace tell Given limits policy disk disk_now before now ending out out_now =
    LeavesAll (IsUnbegun Given ending) disk disk_now before now
    ⊎ RollsOutOf trace tell Given limits policy disk disk_now before now ending out out_now

-- the same of an input that is this rollout
abbrev pub RollsIn : {D P : Type 0} → (D → DiskTrace) → (P → PortTrace)
    → Result Rollout CommandEnd → Limits → (OpView → ℕ) → D → D → FleetSeen P → FleetSeen P → CommandEnd → Option (List ℕ) → Option (List ℕ) → Type 0
RollsIn trace tell rollout limits policy disk disk_now before now ending out out_now =
    LeavesAll (IsRefused rollout ending) disk disk_now before now
    ⊎ ((r : Rollout) × (rollout ≡ Ok r) × OpensAndRolls trace tell r limits policy disk disk_now before now ending out out_now)

-- the same by the status
pub record RollsAs {D P : Type 0} (trace : D → DiskTrace) (tell : P → PortTrace)
    (Given : List ℕ → Type 0) (limits : Limits) (policy : OpView → ℕ) (disk disk_now : D) (before now : FleetSeen P) (status : ℕ) (out out_now : Option (List ℕ)) : Type 0 where
  pub ending : CommandEnd
  pub told : CommandEnd
  pub told_as : IsToldAs ending told
  pub is_status : status ≡ status_of told
  pub rolls : Rolls trace tell Given limits policy disk disk_now before now ending out out_now

-- ---- what is read and written

-- how a run may end whose rollout was begun
abbrev pub may_end : CommandEnd → Bool
may_end Done = true
may_end WriteFault = true
may_end DiskFault = true
may_end (Refused e) = true
may_end (NotFinished u) = true
may_end OutOfMemory = true
may_end ending = false

pub record EndsRollout (ending : CommandEnd) (out out_now : Option (List ℕ)) : Type 0 where
  pub may : may_end ending ≡ true
  pub silent : (status_of ending ≡ 0 → ⊥) → (status_of ending ≡ 7 → ⊥) → out_now ≡ out

-- the input was refused, and nothing was written; or the rollout was begun
abbrev pub FollowsRolled : Result Rollout CommandEnd → CommandEnd → Option (List ℕ) → Option (List ℕ) → Type 0
FollowsRolled rollout ending out out_now =
    (IsRefused rollout ending × (out_now ≡ out)) ⊎ (((r : Rollout) × (rollout ≡ Ok r)) × EndsRollout ending out out_now)

-- The input of a rollout. It is refused exactly where it is no document with a valid plan.
pub record FollowsRollout (source source_now : SourceTrace) (ending : CommandEnd) (out out_now : Option (List ℕ)) : Type 0 where
  pub input : List ℕ
  pub read : IsInput source source_now input
  pub refused : (status_of ending ≡ 3) ↔ (IsValidDocument input → ⊥)
  pub silent : (status_of ending ≡ 0 → ⊥) → (status_of ending ≡ 7 → ⊥) → out_now ≡ out

-- what an ending of a rollout says: after a fault of the source, and for lack of memory, that nothing was written
abbrev pub RunsRollout : SourceTrace → SourceTrace → CommandEnd → Option (List ℕ) → Option (List ℕ) → Type 0
RunsRollout source source_now ReadFault out out_now = out_now ≡ out
RunsRollout source source_now OutOfMemory out out_now = out_now ≡ out
RunsRollout source source_now ending out out_now = FollowsRollout source source_now ending out out_now
