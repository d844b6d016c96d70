-- What a takeover must find to be sure that it ends.
use Rattle.std.specs.Prelude.{◌≡◌, ◌⊎◌, ℕ, ◌<◌, ◌≤◌, ◌^◌, List, length, slice_index, Option, Some, None, Ok}
use Rattle.std.specs.List.{AllByRecursion}
use Rattle.rollout_rules.specs.Agent.{pair_of}
use Rattle.rollout_rules.specs.History.{started}
use Rattle.rollout_rules.specs.Items.{item_count}
use Rattle.rollout_rules.specs.Legal.{unsettled}
use Rattle.rollout_rules.specs.Network.{IsNetwork}
use Rattle.rollout_rules.specs.Wan.{Rollout}
use Rattle.rollout_rules.specs.declared.held.Held.{Held}
use Rattle.rollout_rules.specs.declared.op.OpView.{OpView}
use Rattle.rollout_laws.specs.Waiting.{HoldsNothing}
use Rattle.wan_edge.specs.Frames.{CommandFrame}
use Rattle.wan_edge.specs.Ports.{PortTrace}
use Rattle.wan_edge.specs.Streams.{Rose, SourceTrace}
use Rattle.wan_edge.specs.Switches.{after_commands}
use Rattle.intent_journal.specs.Placements.{MayBePlaced}
use Rattle.port_session.specs.Sessions.{first_session}
use Rattle.switch_ports.specs.Homes.{working_homes}
use Rattle.switch_ports.specs.Outboxes.{home_at}
use Rattle.switch_ports.specs.Views.{SessionTrace, view}
use Rattle.shared_book.specs.Homes.{homes_of}
use Rattle.completion_laws.specs.Answering.{HasAnswered}
use Rattle.controller_run.specs.declared.running.Limits.{Limits}
use Rattle.fence_takeover.specs.Beginnings.{MayBegin}
use Rattle.text_commands.specs.Answers.{rollout_to}
use Rattle.text_commands.specs.Runs.{TellsInput}
use Rattle.swanroll_top.specs.Ready.{CountsNoFault}
use Rattle.swanroll_top.specs.Views.{Outside, Views}
use Rattle.swanroll_top.specs.Rollouts.{fleet_of}

-- ---- what the switches hold

-- A switch holds of an item what the number of a start says: the pair of the migration with this number, or, where it is 0, one of an earlier migration.
-- The pair fits an answer.
pub record IsOfStart (migration number : ℕ) (held : Held) : Type 0 where
  pub pair : (held ≡ pair_of migration number) ⊎ ((held.migration < migration) × (number ≡ 0))
  pub migration_fits : held.migration < 2 ^ 32
  pub number_fits : held.number < 2 ^ 32

-- A port as a takeover from a start must find it. It is prompt, tells all, and has answered all that ever went over it; and its switch holds of each item
-- at home there what the start says.
pub record IsReadyToTell (r : Rollout) (migration : ℕ) (start : List ℕ) (first : SessionTrace) : Type 0 where
  pub commands : List CommandFrame
  pub answered : HasAnswered commands first
  pub holds : (n : ℕ) → n < item_count r.problem → home_at (homes_of r.problem) n ≡ Some first.switch → IsOfStart migration (slice_index start n) (after_commands first.port.start commands n).held

-- Such a port waits for this switch.
pub record WaitsToTell {P : Type 0} (tell : P → PortTrace) (r : Rollout) (migration : ℕ) (start : List ℕ) (waiting : ℕ → Option P) (switch : ℕ) : Type 0 where
  pub port : P
  pub waits : waiting switch ≡ Some port
  pub ready : IsReadyToTell r migration start (view tell (first_session switch port))

-- ---- before a takeover

-- The source tells its input, which is a document with a valid plan; and the disk tells its image, which is blank or a journal, of whatever rollout.
pub record IsGivenFor (source source_now : SourceTrace) (stored : Option (List ℕ)) (r : Rollout) : Type 0 where
  pub input : List ℕ
  pub told_input : TellsInput source source_now input
  pub is : rollout_to input ≡ Ok r
  -- so it is with the problem of each document; what is promised of an input doesn't say it
  pub network : IsNetwork r.problem
  pub image : List ℕ
  pub told : stored ≡ Some image
  pub may : MayBePlaced image

-- One may begin at the start. Each switch with an operation holds it, and its port is ready, over a
-- fleet that tells what waits. There is a round for the questions, and rounds for all that isn't settled.
pub record IsReadyToTake {P : Type 0} (tell : P → PortTrace) (limits : Limits) (waiting : Option (ℕ → Option P)) (r : Rollout) (start : List ℕ) : Type 0 where
  -- the migration fits a frame, as each does that words name
  pub small : limits.migration < 2 ^ 32
  pub long : length start ≡ item_count r.problem
  pub sound : MayBegin r start
  pub ports : ℕ → Option P
  pub told : waiting ≡ Some ports
  pub each : AllByRecursion (WaitsToTell tell r limits.migration start ports) (working_homes r.problem r.plan)
  pub some : 0 < limits.rounds
  pub enough : unsettled r.problem r.plan (started start) ≤ limits.rounds

-- ---- faults

-- No count of faults has risen in a takeover: that of the source, the sink, the disk, the fleet, or a port.
pub record TakesNoFault {S K D F P G : Type 0} (views : Views S K D F P G) (before after : Outside S K D F) : Type 0 where
  pub source : Rose (views.source before.source).faults (views.source after.source).faults → ⊥
  pub sink : Rose (views.sink before.sink).faults (views.sink after.sink).faults → ⊥
  pub rest : CountsNoFault views.port (views.disk before.disk).faults (views.disk after.disk).faults (fleet_of (views.fleet before.fleet)) (fleet_of (views.fleet after.fleet))

-- How a takeover ends that finds all that it needs: memory ran out, it is finished, or its policy holds back what is left, which is none that holds nothing back.
abbrev pub EndsWell : (OpView → ℕ) → ℕ → Type 0
EndsWell policy status = (status ≡ 12) ⊎ ((status ≡ 0) ⊎ ((status ≡ 14) × (HoldsNothing policy → ⊥)))
