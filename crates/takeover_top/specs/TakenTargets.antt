-- What stands after a takeover: nothing but questions went out, or the network is safe as after any rollout that began at what the switches told.
use Rattle.std.specs.Prelude.{◌≡◌, ◌⊎◌, ◌==◌, ℕ, true, false, List, [], ◌∷◌, Option, Some, Result, Ok, Err, IsTrue}
use Rattle.std.specs.List.{AllByRecursion, list_any}
use Rattle.rollout_rules.specs.History.{started, with_entries}
use Rattle.rollout_rules.specs.Items.{item_count}
use Rattle.rollout_rules.specs.Legal.{is_finished, is_sound}
use Rattle.rollout_rules.specs.Wan.{Rollout}
use Rattle.wan_edge.specs.Ports.{PortTrace}
use Rattle.wan_edge.specs.Streams.{Appends}
use Rattle.disk_model.specs.Traces.{DiskTrace}
use Rattle.disk_mirror.specs.Openings.{Opens}
use Rattle.dependency_graph.specs.Graph.{op_total}
use Rattle.dependency_graph.specs.declared.start_fault.StartFault.{StartFault}
use Rattle.switch_ports.specs.Berths.{FleetPorts}
use Rattle.controller_run.specs.declared.running.Limits.{Limits}
use Rattle.rollback_service.specs.Placings.{HasPlaced, MayPlace}
use Rattle.fence_takeover.specs.Fences.{Fences, IsFencedOff}
use Rattle.fence_takeover.specs.declared.end.FenceEnd.{FenceEnd}
use Rattle.fence_takeover.specs.Beginnings.{IsRefused, MayBegin, taken_kept}
use Rattle.text_commands.specs.Answers.{rollout_to}
use Rattle.swanroll_top.specs.NextStarts.{NextStart}
use Rattle.swanroll_top.specs.Targets.{BeginsNothing, EndsAtTarget, StaysSafe}
use Rattle.takeover_top.specs.Lines.{start_total, taken_line}

-- The input, of which this test holds, is a rollout. Its switches were asked, and nothing went out besides.
pub record AsksOnly {P : Type 0} (tell : P → PortTrace) (limits : Limits) (Given : List ℕ → Type 0) (before now : FleetPorts P) : Type 0 where
  pub input : List ℕ
  pub given : Given input
  pub r : Rollout
  pub is : rollout_to input ≡ Ok r
  pub told : Result (List ℕ) FenceEnd
  pub asked : FleetPorts P
  pub fences : Fences told tell r.problem r.plan limits.migration limits.rounds before asked
  pub rest : BeginsNothing tell asked now

-- The input is a rollout, and it was begun. Each home of an operation told what it holds, one may begin there, and a journal that begins there was placed on the
-- disk as it was opened. From it the rollout was run, over the ports as the last answer left them, with the list empty and what was told as the start: the
-- network is safe, as after a run (stays), and a run from the same journal isn't refused for what a crash leaves (next).
pub record TakesSafely {D P : Type 0} (trace : D → DiskTrace) (tell : P → PortTrace) (limits : Limits) (Given : List ℕ → Type 0) (disk disk_now : D) (before now : FleetPorts P) : Type 0 where
  pub input : List ℕ
  pub given : Given input
  pub r : Rollout
  pub is : rollout_to input ≡ Ok r
  pub start : List ℕ
  pub asked : FleetPorts P
  pub fenced : IsFencedOff tell r.problem r.plan limits.migration limits.rounds before asked start
  pub sound : MayBegin r start
  pub opened : D
  pub opens : Opens (trace disk) (trace opened)
  pub placed : D
  pub may : MayPlace trace (taken_kept r limits.migration start) opened placed
  pub has : HasPlaced trace (taken_kept r limits.migration start) placed
  pub stays : StaysSafe trace tell limits (λ bytes. bytes ≡ input) placed asked now
  pub begins : stays.found ≡ started start
  pub next : NextStart trace limits (λ bytes. bytes ≡ input) placed disk_now

-- So it is, every operation is settled, and the switches are at the target. And the line of it was written, with the sum of the start.
pub record TakesToTarget {D P : Type 0} (trace : D → DiskTrace) (tell : P → PortTrace) (limits : Limits) (Given : List ℕ → Type 0) (disk disk_now : D) (before now : FleetPorts P) (out out_now : Option (List ℕ)) : Type 0 where
  pub takes : TakesSafely trace tell limits Given disk disk_now before now
  pub finished : is_finished takes.stays.r.problem takes.stays.r.plan (with_entries takes.stays.found takes.stays.added) ≡ true
  pub ports : AllByRecursion (EndsAtTarget tell takes.stays.r limits.migration takes.stays.found takes.asked now) takes.stays.berths
  pub line : Appends out (taken_line (op_total takes.r) (start_total (item_count takes.r.problem) takes.start)) out_now

-- The input is a rollout, all its homes told, and what they told is no start of it: nothing went out but the questions, and the disk is as it was.
pub record RefusesStart {D P : Type 0} (tell : P → PortTrace) (limits : Limits) (Given : List ℕ → Type 0) (disk disk_now : D) (before now : FleetPorts P) : Type 0 where
  pub input : List ℕ
  pub given : Given input
  pub r : Rollout
  pub is : rollout_to input ≡ Ok r
  pub start : List ℕ
  pub fenced : IsFencedOff tell r.problem r.plan limits.migration limits.rounds before now start
  pub unsound : is_sound r.problem r.plan start ≡ false
  pub fault : StartFault
  pub refused : IsRefused r start r fault disk disk_now

-- the statuses that come only after a rollout that was begun, whatever its cause
abbrev pub IsOfTaken : ℕ → Type 0
IsOfTaken status = IsTrue (list_any (λ s. s == status) (0 ∷ 7 ∷ 14 ∷ []))

-- at every end: nothing was asked, or nothing but questions went out, or the network is safe
abbrev pub EndsTaken : {D P : Type 0} → (D → DiskTrace) → (P → PortTrace) → Limits → (List ℕ → Type 0) → D → D → FleetPorts P → FleetPorts P → Type 0
EndsTaken trace tell limits Given disk disk_now before now = (now ≡ before) ⊎ (AsksOnly tell limits Given before now ⊎ TakesSafely trace tell limits Given disk disk_now before now)
