-- What the command `held` brings about. A port is given by what it tells.
use Rattle.std.specs.Prelude.{◌≡◌, ◌⊎◌, ℕ, List, Option, Result, Ok, Err, IsErrOf}
use Rattle.rollout_rules.specs.Wan.{Rollout}
use Rattle.wan_edge.specs.Ports.{PortTrace}
use Rattle.wan_edge.specs.Streams.{Appends, Rose}
use Rattle.held_service.specs.HeldText.{AsksAll, TellsText}
use Rattle.held_service.specs.declared.not_told.NotTold.{NotTold}
use Rattle.held_service.specs.declared.not_told.NotTold.TheVariants as not_told
use Rattle.text_commands.specs.Answers.{rollout_to}
use Rattle.swanroll_top.specs.Rollouts.{FleetSeen, IsRefused, IsUnbegun}
use Rattle.text_commands.specs.Runs.{Follows}
use Rattle.text_commands.specs.declared.command_end.CommandEnd.{CommandEnd}
use Rattle.text_commands.specs.declared.command_end.CommandEnd.TheVariants.{NotFinished, OutOfMemory}
use Rattle.text_commands.specs.declared.unfinished.Unfinished.TheVariants.{RoundsSpent, PortFault, NotMine, NoAnswer}

-- how a run ends where a switch didn't tell all that it was asked: a question is named as operation 0 of its item
abbrev pub ending_of_not_told : Rollout → ℕ → NotTold → CommandEnd
ending_of_not_told r rounds (not_told.Spent item) = NotFinished (RoundsSpent rounds item 0)
ending_of_not_told r rounds (not_told.NoPort switch) = NotFinished (PortFault r switch)
ending_of_not_told r rounds (not_told.Port switch) = NotFinished (PortFault r switch)
ending_of_not_told r rounds (not_told.NotAsked switch item) = NotFinished (NotMine r switch item)
ending_of_not_told r rounds (not_told.NoAnswer switch byte) = NotFinished (NoAnswer r switch byte)
ending_of_not_told r rounds not_told.Memory = OutOfMemory

-- what is written where all of them told, or how the run ends without it
abbrev pub told_or_ending : Rollout → ℕ → Result (List ℕ) NotTold → Result (List ℕ) CommandEnd
told_or_ending r rounds (Ok text) = Ok text
told_or_ending r rounds (Err why) = Err (ending_of_not_told r rounds why)

-- The switches of a rollout were asked, and the run ends as they answered. Where a port is missing, the fleet failed to give it.
pub record AsksRollout {P : Type 0} (tell : P → PortTrace) (r : Rollout) (rounds : ℕ) (before now : FleetSeen P) (ending : CommandEnd) (out out_now : Option (List ℕ)) : Type 0 where
  pub answer : Result (List ℕ) NotTold
  pub asks : AsksAll answer tell r.problem r.plan rounds before.ports now.ports
  pub no_port : (w : ℕ) → IsErrOf answer (not_told.NoPort w) → Rose before.faults now.faults
  pub follows : Follows (told_or_ending r rounds answer) ending out out_now

-- ---- by the input: which bytes that may be is given by a test on them, as that they are what was read

-- nothing was asked, and the fleet is as it was
pub record LeavesFleet {P : Type 0} (cause : Type 0) (before now : FleetSeen P) : Type 0 where
  pub why : cause
  pub fleet_is : now ≡ before

-- The input is a rollout, and its switches were asked.
pub record AsksRolloutOf {P : Type 0} (tell : P → PortTrace) (Given : List ℕ → Type 0) (rounds : ℕ) (before now : FleetSeen P) (ending : CommandEnd) (out out_now : Option (List ℕ)) : Type 0 where
  pub input : List ℕ
  pub given : Given input
  pub r : Rollout
  pub is : rollout_to input ≡ Ok r
  pub asks : AsksRollout tell r rounds before now ending out out_now

-- either way
abbrev pub Asks : {P : Type 0} → (P → PortTrace) → (List ℕ → Type 0) → ℕ → FleetSeen P → FleetSeen P → CommandEnd → Option (List ℕ) → Option (List ℕ) → Type 0
Asks tell Given rounds before now ending out out_now = LeavesFleet (IsUnbegun Given ending) before now ⊎ AsksRolloutOf tell Given rounds before now ending out out_now

-- the same of an input that is this rollout
abbrev pub AsksIn : {P : Type 0} → (P → PortTrace) → Result Rollout CommandEnd → ℕ → FleetSeen P → FleetSeen P → CommandEnd → Option (List ℕ) → Option (List ℕ) → Type 0
AsksIn tell rollout rounds before now ending out out_now =
    LeavesFleet (IsRefused rollout ending) before now ⊎ ((r : Rollout) × (rollout ≡ Ok r) × AsksRollout tell r rounds before now ending out out_now)

-- All switches that the rollout of the input has work at told what they hold, and that is what was written.
pub record WritesHeld {P : Type 0} (tell : P → PortTrace) (Given : List ℕ → Type 0) (rounds : ℕ) (before now : FleetSeen P) (out out_now : Option (List ℕ)) : Type 0 where
  pub input : List ℕ
  pub given : Given input
  pub r : Rollout
  pub is : rollout_to input ≡ Ok r
  pub text : List ℕ
  pub tells : TellsText tell r.problem r.plan rounds text before.ports now.ports
  pub written : Appends out text out_now
