-- What a run must find to be sure that it finishes.
use Rattle.std.specs.Prelude.{◌≡◌, ℕ, ◌≤◌, List, Option, Some, Ok, IfSome}
use Rattle.std.specs.List.{AllByRecursion}
use Rattle.rollout_rules.specs.Wan.{Rollout}
use Rattle.rollout_rules.specs.History.{History}
use Rattle.rollout_rules.specs.declared.op.OpView.{OpView}
use Rattle.rollout_rules.specs.Legal.{unsettled}
use Rattle.rollout_laws.specs.Waiting.{HoldsNothing}
use Rattle.wan_edge.specs.Ports.{PortTrace}
use Rattle.wan_edge.specs.Streams.{Rose, SourceTrace}
use Rattle.intent_journal.specs.Verdicts.{verdict}
use Rattle.port_session.specs.Sessions.{first_session}
use Rattle.switch_ports.specs.Views.{view}
use Rattle.shared_book.specs.Homes.{homes_of}
use Rattle.switch_ports.specs.Homes.{working_homes}
use Rattle.rollout_report.specs.Journals.{digest_for}
use Rattle.controller_run.specs.declared.running.Limits.{Limits}
use Rattle.intent_journal.specs.Openings.{found_by}
use Rattle.completion_laws.specs.Answering.{IsReady}
use Rattle.text_commands.specs.Answers.{rollout_to}
use Rattle.swanroll_top.specs.Rollouts.{FleetSeen}
use Rattle.text_commands.specs.Runs.{TellsInput}

-- The source tells its input, which is a document with a valid plan; and the disk tells its image, which is blank or a journal of this rollout with a
-- legal list. The rollout goes on from this history.
pub record GoesOnFrom (migration : ℕ) (source source_now : SourceTrace) (stored : Option (List ℕ)) (r : Rollout) (found : History) : Type 0 where
  pub input : List ℕ
  pub told_input : TellsInput source source_now input
  pub is : rollout_to input ≡ Ok r
  pub image : List ℕ
  pub told : stored ≡ Some image
  pub begins : found_by r (verdict r (digest_for r migration) image) ≡ Some found

-- A port waits for this switch, and is ready for a run from there.
pub record WaitsReady {P : Type 0} (tell : P → PortTrace) (r : Rollout) (migration : ℕ) (found : History) (waiting : ℕ → Option P) (switch : ℕ) : Type 0 where
  pub port : P
  pub waits : waiting switch ≡ Some port
  pub ready : IsReady r migration (homes_of r.problem) found (view tell (first_session switch port))

-- So it is with each switch with an operation, over a fleet that tells what waits. Rounds are given for all that isn't settled, and the policy holds
-- nothing back.
pub record IsReadyFor {P : Type 0} (tell : P → PortTrace) (limits : Limits) (policy : OpView → ℕ) (waiting : Option (ℕ → Option P)) (r : Rollout) (found : History) : Type 0 where
  pub ports : ℕ → Option P
  pub told : waiting ≡ Some ports
  pub each : AllByRecursion (WaitsReady tell r limits.migration found ports) (working_homes r.problem r.plan)
  pub enough : unsettled r.problem r.plan found ≤ limits.rounds
  pub free : HoldsNothing policy

-- The same for a rollback, whose policy is its own.
pub record IsServedFor {P : Type 0} (tell : P → PortTrace) (limits : Limits) (waiting : Option (ℕ → Option P)) (r : Rollout) (found : History) : Type 0 where
  pub ports : ℕ → Option P
  pub told : waiting ≡ Some ports
  pub each : AllByRecursion (WaitsReady tell r limits.migration found ports) (working_homes r.problem r.plan)
  pub enough : unsettled r.problem r.plan found ≤ limits.rounds

-- No count of faults has risen: that of the disk, which was the first and is the second, that of the fleet, and that of no port, from where it waited
-- to where it is back.
pub record CountsNoFault {P : Type 0} (tell : P → PortTrace) (count later : ℕ) (before now : FleetSeen P) : Type 0 where
  pub disk : Rose count later → ⊥
  pub fleet : Rose before.faults now.faults → ⊥
  pub ports : IfSome before.ports.waiting (λ waiting. (switch : ℕ) (first back : P) → waiting switch ≡ Some first → now.ports.kept switch ≡ Some back → Rose (tell first).faults (tell back).faults → ⊥)
