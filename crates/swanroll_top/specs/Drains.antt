-- What the command `drain` brings about. A disk and a port are given by what they tell.
use Rattle.std.specs.Prelude.{◌≡◌, ◌⊎◌, ◌-◌, ◌<◌, ◌^◌, ℕ, List, ◌++◌, codes, decimal, Option, Result, Ok, Err, IfOk, IfErr}
use Rattle.rollout_rules.specs.Wan.{Rollout}
use Rattle.rollout_rules.specs.Network.{IsNetwork}
use Rattle.rollout_rules.specs.declared.op.OpView.{OpView}
use Rattle.disk_model.specs.Traces.{DiskTrace}
use Rattle.disk_mirror.specs.Openings.{IsTold, Opens, OpensWithin}
use Rattle.intent_journal.specs.Openings.{IsLeft}
use Rattle.intent_journal.specs.declared.fault.JournalFault.{JournalFault}
use Rattle.wan_edge.specs.Ports.{PortTrace}
use Rattle.wan_edge.specs.Streams.{Rose}
use Rattle.rollout_report.specs.Journals.{digest_for}
use Rattle.controller_run.specs.declared.running.Limits.{Limits}
use Rattle.controller_run.specs.RolloutEnds.{HasRolled}
use Rattle.controller_run.specs.declared.end.RunEnd.{RunEnd}
use Rattle.controller_run.specs.declared.end.RunEnd.TheVariants as run
use Rattle.controller_run.specs.declared.outcome.RunOutcome.{RunOutcome}
use Rattle.rollback_service.specs.Drainings.{HoldsAll}
use Rattle.text_commands.specs.CommandEnds.{status_of}
use Rattle.retarget_service.specs.JournalRoom.{journal_room}
use Rattle.text_commands.specs.Lines.{IsToldAs}
use Rattle.text_commands.specs.Answers.{rollout_to}
use Rattle.swanroll_top.specs.Rollouts.{FailsToOpen, FleetSeen, IsRefused, IsUnbegun, LeavesAll, by_answer, ending_at}
use Rattle.text_commands.specs.Runs.{Follows}
use Rattle.text_commands.specs.Safety.{IsValid}
use Rattle.text_commands.specs.declared.command_end.CommandEnd.{CommandEnd}

-- how many operations there are, and how many of them are settled
abbrev pub drained_line : ℕ → ℕ → List ℕ
drained_line operations settled = codes "drained: operations " ++ decimal operations ++ codes ", settled " ++ decimal settled ++ codes "\n"

-- the same by how many are left
abbrev pub line_with_left : ℕ → ℕ → List ℕ
line_with_left operations left = drained_line operations (operations - left)

-- The line of a rollout that is drained: none is left, or those that are held back. Or how the run ends without one.
abbrev pub drained_at : RunEnd → RunOutcome → Result (List ℕ) CommandEnd
drained_at run.Finished outcome = Ok (line_with_left outcome.operations 0)
drained_at run.Held outcome = Ok (line_with_left outcome.operations outcome.left)
drained_at end outcome = Err (ending_at end outcome)

abbrev pub drained_or_ending : RunOutcome → Result (List ℕ) CommandEnd
drained_or_ending outcome = drained_at outcome.end outcome

-- The rollout of an input, whose plan is valid, was run from what its disk had, over the ports of a fleet, under a policy that holds all back, and the run ends as the answer says.
-- Where no journal was opened, no port was; where a port is missing, the fleet failed to give it.
pub record DrainsOut {D P : Type 0} (trace : D → DiskTrace) (tell : P → PortTrace)
    (r : Rollout) (limits : Limits) (disk disk_now : D) (before now : FleetSeen P) (ending : CommandEnd) (out out_now : Option (List ℕ)) : Type 0 where
  pub network : IsNetwork r.problem
  pub valid : IsValid r.problem r.plan
  pub small : limits.migration < 2 ^ 32
  pub policy : OpView → ℕ
  pub holds : HoldsAll policy
  pub answer : Result RunOutcome JournalFault
  pub rolled : IfOk answer (λ outcome. HasRolled trace tell r (digest_for r limits.migration) policy limits.rounds disk before.ports now.ports disk_now outcome)
  pub unopened : IfErr answer (λ why. IsLeft trace r (digest_for r limits.migration) disk why disk_now × (now ≡ before))
  pub no_port : IfOk answer (λ outcome. (switch : ℕ) → outcome.end ≡ run.NoPort switch → Rose before.faults now.faults)
  pub follows : Follows (by_answer drained_or_ending answer) ending out out_now

-- The disk was opened, tells its bytes since, no more than there is room for a journal of this rollout, and the rollout was drained from these.
pub record DrainsOpened {D P : Type 0} (trace : D → DiskTrace) (tell : P → PortTrace)
    (r : Rollout) (limits : Limits) (disk disk_now : D) (before now : FleetSeen P) (ending : CommandEnd) (out out_now : Option (List ℕ)) : Type 0 where
  pub opened : D
  pub opens : Opens (trace disk) (trace opened)
  pub told : IsTold (trace opened).bytes
  pub within : OpensWithin (journal_room r) (trace disk) (trace opened)
  pub drains : DrainsOut trace tell r limits opened disk_now before now ending out out_now

-- that, or the disk couldn't be opened
abbrev pub OpensAndDrains : {D P : Type 0} → (D → DiskTrace) → (P → PortTrace)
    → Rollout → Limits → D → D → FleetSeen P → FleetSeen P → CommandEnd → Option (List ℕ) → Option (List ℕ) → Type 0
OpensAndDrains trace tell r limits disk disk_now before now ending out out_now =
    FailsToOpen trace disk disk_now before now ending out out_now
    ⊎ DrainsOpened trace tell r limits disk disk_now before now ending out out_now

-- ---- by the input

-- The input is a rollout, and it was drained, unless its disk couldn't be opened.
pub record DrainsOutOf {D P : Type 0} (trace : D → DiskTrace) (tell : P → PortTrace)
    (Given : List ℕ → Type 0) (limits : Limits) (disk disk_now : D) (before now : FleetSeen P) (ending : CommandEnd) (out out_now : Option (List ℕ)) : Type 0 where
  pub input : List ℕ
  pub given : Given input
  pub r : Rollout
  pub is : rollout_to input ≡ Ok r
  pub rolls : OpensAndDrains trace tell r limits disk disk_now before now ending out out_now

-- that, or nothing was begun
abbrev pub Drains : {D P : Type 0} → (D → DiskTrace) → (P → PortTrace)
    → (List ℕ → Type 0) → Limits → D → D → FleetSeen P → FleetSeen P → CommandEnd → Option (List ℕ) → Option (List ℕ) → Type 0
Drains trace tell Given limits disk disk_now before now ending out out_now =
    LeavesAll (IsUnbegun Given ending) disk disk_now before now
    ⊎ DrainsOutOf trace tell Given limits disk disk_now before now ending out out_now

-- the same of an input that is this rollout
abbrev pub DrainsIn : {D P : Type 0} → (D → DiskTrace) → (P → PortTrace)
    → Result Rollout CommandEnd → Limits → D → D → FleetSeen P → FleetSeen P → CommandEnd → Option (List ℕ) → Option (List ℕ) → Type 0
DrainsIn trace tell rollout limits disk disk_now before now ending out out_now =
    LeavesAll (IsRefused rollout ending) disk disk_now before now
    ⊎ ((r : Rollout) × (rollout ≡ Ok r) × OpensAndDrains trace tell r limits disk disk_now before now ending out out_now)

-- the same by the status
pub record DrainsAs {D P : Type 0} (trace : D → DiskTrace) (tell : P → PortTrace)
    (Given : List ℕ → Type 0) (limits : Limits) (disk disk_now : D) (before now : FleetSeen P) (status : ℕ) (out out_now : Option (List ℕ)) : Type 0 where
  pub ending : CommandEnd
  pub told : CommandEnd
  pub told_as : IsToldAs ending told
  pub is_status : status ≡ status_of told
  pub rolls : Drains trace tell Given limits disk disk_now before now ending out out_now
