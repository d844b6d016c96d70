-- What `takeover` brings about, step by step, from its input to its line. A disk and a port are given by what they tell.
use Rattle.std.specs.Prelude.{◌≡◌, ℕ, ◌≤◌, ◌<◌, ◌^◌, List, Result, Ok, Err, IfOk, IfErr, IsErrOf}
use Rattle.rollout_rules.specs.Items.{item_count}
use Rattle.rollout_rules.specs.Network.{IsNetwork}
use Rattle.rollout_rules.specs.Wan.{Rollout}
use Rattle.rollout_rules.specs.declared.op.OpView.{OpView}
use Rattle.wan_edge.specs.Ports.{PortTrace}
use Rattle.wan_edge.specs.Streams.{Rose, SinkTrace, SourceTrace}
use Rattle.disk_model.specs.Traces.{DiskTrace}
use Rattle.intent_journal.specs.Openings.{IsLeft}
use Rattle.intent_journal.specs.declared.fault.JournalFault.{JournalFault}
use Rattle.rollout_report.specs.Journals.{digest_for}
use Rattle.controller_run.specs.declared.running.Limits.{Limits}
use Rattle.controller_run.specs.RolloutEnds.{HasRolled}
use Rattle.controller_run.specs.declared.end.RunEnd.TheVariants as run
use Rattle.controller_run.specs.declared.outcome.RunOutcome.{RunOutcome}
use Rattle.fence_takeover.specs.declared.end.FenceEnd.TheVariants as fence
use Rattle.fence_takeover.specs.Beginnings.{Begins}
use Rattle.fence_takeover.specs.declared.begun.NotBegun.{NotBegun}
use Rattle.fence_takeover.specs.declared.begun.NotBegun.TheVariants as why
use Rattle.text_commands.specs.Answers.{rollout_in}
use Rattle.text_commands.specs.Reading.{ReadsInput}
use Rattle.text_commands.specs.Runs.{Follows, Gives}
use Rattle.text_commands.specs.Safety.{IsValid}
use Rattle.text_commands.specs.declared.command_end.CommandEnd.{CommandEnd}
use Rattle.text_commands.specs.declared.command_end.CommandEnd.TheVariants.{DiskFault, ReadFault, WriteFault}
use Rattle.retarget_service.specs.JournalRoom.{journal_room}
use Rattle.swanroll_top.specs.Rollouts.{FleetSeen, by_answer}
use Rattle.takeover_top.specs.Endings.{ending_of_not_begun, taken_or_ending}
use Rattle.takeover_top.specs.Lines.{start_total}
use Rattle.takeover_top.specs.declared.ending.TakeoverEnding.{TakeoverEnding}
use Rattle.takeover_top.specs.declared.ending.TakeoverEnding.TheVariants.{Ended}

-- ---- from the journal that was placed on

-- The rollout was run from the disk on which the journal from this start was placed, over the ports as the last answer left them, and the takeover ends
-- as the answer says. Where no journal was opened, no port was; where a port is missing, the fleet failed to give it.
pub record RunsOn {D P : Type 0} (trace : D → DiskTrace) (tell : P → PortTrace)
    (r : Rollout) (limits : Limits) (policy : OpView → ℕ) (start : List ℕ) (placed disk_now : D) (mid now : FleetSeen P) (ending : TakeoverEnding) (sink sink_now : SinkTrace) : Type 0 where
  pub network : IsNetwork r.problem
  pub valid : IsValid r.problem r.plan
  pub small : limits.migration < 2 ^ 32
  pub answer : Result RunOutcome JournalFault
  pub rolled : IfOk answer (λ outcome. HasRolled trace tell r (digest_for r limits.migration) policy limits.rounds placed mid.ports now.ports disk_now outcome)
  pub unopened : IfErr answer (λ cause. IsLeft trace r (digest_for r limits.migration) placed cause disk_now × (now ≡ mid))
  pub no_port : IfOk answer (λ outcome. (switch : ℕ) → outcome.end ≡ run.NoPort switch → Rose mid.faults now.faults)
  -- the line is that of the answer, with the sum of the start
  pub ended : CommandEnd
  pub is : ending ≡ Ended ended
  pub follows : Follows (by_answer (taken_or_ending (start_total (item_count r.problem) start)) answer) ended sink.written sink_now.written
  -- a fault comes only where its object counted one
  pub disk_fault : ended ≡ DiskFault → Rose (trace placed).faults (trace disk_now).faults
  pub write_fault : ended ≡ WriteFault → Rose sink.faults sink_now.faults

-- The takeover was begun, and then run; or it wasn't, and ends for that: then nothing more is asked or written.
abbrev pub ByBeginning : {D P : Type 0} → (D → DiskTrace) → (P → PortTrace) → Limits → (OpView → ℕ) → Result (Rollout × List ℕ) NotBegun → D → D → FleetSeen P → FleetSeen P
    → TakeoverEnding → SinkTrace → SinkTrace → Type 0
ByBeginning trace tell limits policy (Ok taken) begun disk_now mid now ending sink sink_now = RunsOn trace tell taken.0 limits policy taken.1 begun disk_now mid now ending sink sink_now
ByBeginning trace tell limits policy (Err cause) begun disk_now mid now ending sink sink_now =
    (ending ≡ ending_of_not_begun cause) × (disk_now ≡ begun) × (now ≡ mid) × (sink_now ≡ sink)

-- ---- a rollout

-- The homes were asked, what they told was tested and its journal placed, or not; and this came of it.
pub record TakesRollout {D P : Type 0} (trace : D → DiskTrace) (tell : P → PortTrace)
    (r : Rollout) (limits : Limits) (policy : OpView → ℕ) (disk disk_now : D) (before now : FleetSeen P) (ending : TakeoverEnding) (sink sink_now : SinkTrace) : Type 0 where
  pub answer : Result (Rollout × List ℕ) NotBegun
  pub begun : D
  pub mid : FleetSeen P
  pub begins : Begins answer tell trace r limits.migration limits.rounds (journal_room r) before.ports mid.ports disk begun
  pub no_port : (other : Rollout) (switch : ℕ) → IsErrOf answer (why.Fence other (fence.NoPort switch)) → Rose before.faults mid.faults
  pub count : before.faults ≤ mid.faults
  pub ends : ByBeginning trace tell limits policy answer begun disk_now mid now ending sink sink_now

-- ---- by the input

-- nothing was asked, stored or written, and the takeover ends so
abbrev pub EndsBefore : {D P : Type 0} → CommandEnd → D → D → FleetSeen P → FleetSeen P → TakeoverEnding → SinkTrace → SinkTrace → Type 0
EndsBefore e disk disk_now before now ending sink sink_now = (ending ≡ Ended e) × (disk_now ≡ disk) × (now ≡ before) × (sink_now ≡ sink)

-- the rollout of the input decides, or that it is refused
abbrev pub ByRollout : {D P : Type 0} → (D → DiskTrace) → (P → PortTrace) → Limits → (OpView → ℕ) → Result Rollout CommandEnd → D → D → FleetSeen P → FleetSeen P
    → TakeoverEnding → SinkTrace → SinkTrace → Type 0
ByRollout trace tell limits policy (Ok r) disk disk_now before now ending sink sink_now = TakesRollout trace tell r limits policy disk disk_now before now ending sink sink_now
ByRollout trace tell limits policy (Err e) disk disk_now before now ending sink sink_now = EndsBefore e disk disk_now before now ending sink sink_now

pub record TakesInput {D P : Type 0} (trace : D → DiskTrace) (tell : P → PortTrace)
    (input : List ℕ) (limits : Limits) (policy : OpView → ℕ) (disk disk_now : D) (before now : FleetSeen P) (ending : TakeoverEnding) (sink sink_now : SinkTrace) : Type 0 where
  pub rollout : Result Rollout CommandEnd
  pub gives : Gives rollout (rollout_in input)
  pub ends : ByRollout trace tell limits policy rollout disk disk_now before now ending sink sink_now

-- the input decides, or that it wasn't read
abbrev pub ByInput : {D P : Type 0} → (D → DiskTrace) → (P → PortTrace) → Limits → (OpView → ℕ) → Result (List ℕ) CommandEnd → D → D → FleetSeen P → FleetSeen P
    → TakeoverEnding → SinkTrace → SinkTrace → Type 0
ByInput trace tell limits policy (Ok input) disk disk_now before now ending sink sink_now = TakesInput trace tell input limits policy disk disk_now before now ending sink sink_now
ByInput trace tell limits policy (Err e) disk disk_now before now ending sink sink_now = EndsBefore e disk disk_now before now ending sink sink_now

pub record Takes {D P : Type 0} (trace : D → DiskTrace) (tell : P → PortTrace)
    (source source_now : SourceTrace) (limits : Limits) (policy : OpView → ℕ) (disk disk_now : D) (before now : FleetSeen P) (ending : TakeoverEnding) (sink sink_now : SinkTrace) : Type 0 where
  pub input : Result (List ℕ) CommandEnd
  pub reads : ReadsInput source input source_now
  pub cause : IsErrOf input ReadFault → Rose source.faults source_now.faults
  pub ends : ByInput trace tell limits policy input disk disk_now before now ending sink sink_now
