-- What levelling a rollout comes to.
use Rattle.std.specs.Prelude.{◌≡◌, ⊤, ℕ, true, List, length, IsTrue}
use Rattle.rollout_rules.specs.Wan.{Rollout}
use Rattle.rollout_rules.specs.Items.{item_count}
use Rattle.rollout_rules.specs.History.{History}
use Rattle.rollout_rules.specs.Legal.{is_sound}
use Rattle.rollout_rules.specs.declared.op.OpView.{OpView}
use Rattle.order_policy.specs.Answers.{is_view}
use Rattle.disk_model.specs.Traces.{DiskTrace}
use Rattle.intent_journal.specs.declared.digest.Digest.{Digest}
use Rattle.wan_edge.specs.Ports.{PortTrace}
use Rattle.rollout_book.specs.JournaledRounds.{Journaled}
use Rattle.switch_ports.specs.Berths.{FleetPorts}
use Rattle.controller_run.specs.declared.end.RunEnd.{RunEnd}
use Rattle.controller_run.specs.declared.end.RunEnd.TheVariants as run
use Rattle.controller_run.specs.RolloutEnds.{HasRolled, HasRun}
use Rattle.controller_run.specs.declared.outcome.RunOutcome.{RunOutcome}
use Rattle.rollback_plan.specs.Levels.{ceiling, levelling}
use Rattle.rollback_plan.specs.Turning.{back_plan, back_problem}
use Rattle.rollback_plan.specs.Turns.{TurnsFirstAt, turn_start}
use Rattle.rollback_service.specs.declared.answer.LevelAnswer.{LevelAnswer}
use Rattle.rollback_service.specs.declared.answer.LevelAnswer.TheVariants as level
use Rattle.rollback_service.specs.declared.origin.BackFrom.{BackFrom}
use Rattle.rollback_service.specs.declared.origin.BackFrom.TheVariants as whence

-- the stage to which a history of a rollout has come
abbrev pub ceiling_of : Rollout → History → ℕ
ceiling_of r h = ceiling r.problem r.plan h

-- the stage at which a rollout with this history is levelled before it goes back: the one to which it has come, or the first one at which it may turn
abbrev pub TurnsFrom : BackFrom → Rollout → History → ℕ → Type 0
TurnsFrom whence.Level r h s = s ≡ ceiling_of r h
TurnsFrom whence.Here r h s = TurnsFirstAt r.problem r.plan h s

-- where its way back begins then
abbrev pub start_of : Rollout → History → ℕ → List ℕ
start_of r h s = turn_start r.problem r.plan h s

-- The way back of a rollout may begin so, with a number of each item.
pub record IsStartBack (r : Rollout) (start : List ℕ) : Type 0 where
  pub numbers : length start ≡ item_count r.problem
  pub sound : IsTrue (is_sound (back_problem r.problem) (back_plan r.plan) start)

-- A policy levels at a stage: of each operation that it is asked about it answers as that says.
abbrev pub LevelsBy : ℕ → (OpView → ℕ) → Type 0
LevelsBy s policy = (view : OpView) → is_view view ≡ true → policy view ≡ levelling s view

-- The answer after a run that has come to this, under the policy that levels a rollout where its way back begins so: it is level where the run finished, and where the policy holds back the rest.
abbrev pub level_at : RunEnd → RunOutcome → List ℕ → LevelAnswer
level_at run.Finished outcome start = level.Level outcome.plan start
level_at run.Held outcome start = level.Level outcome.plan start
level_at (run.Stopped halt) outcome start = level.Unlevel outcome
level_at (run.NoPort switch) outcome start = level.Unlevel outcome
level_at run.Memory outcome start = level.Unlevel outcome

abbrev pub level_for : RunOutcome → List ℕ → LevelAnswer
level_for outcome start = level_at outcome.end outcome start

-- the way back may begin where it does after a level
abbrev pub MayStart : LevelAnswer → Type 0
MayStart (level.Level r start) = IsStartBack r start
MayStart (level.Unlevel outcome) = ⊤

-- it isn't level since the fleet had no port for this switch
abbrev pub LacksPort : LevelAnswer → ℕ → Type 0
LacksPort (level.Level r start) switch = ⊥
LacksPort (level.Unlevel outcome) switch = outcome.end ≡ run.NoPort switch

-- A book was run from its opening on under this policy, and closed; the answer is the one for this start.
pub record HasRunUnder {D P : Type 0} (trace : D → DiskTrace) (tell : P → PortTrace) (policy : OpView → ℕ) (migration rounds : ℕ) (opened : Journaled D) (start : List ℕ) (before now : FleetPorts P) (disk : D) (answer : LevelAnswer) : Type 0 where
  pub run : RunOutcome
  pub has : HasRun trace tell policy migration rounds opened before now disk run
  pub tells : answer ≡ level_for run start

-- the same under a policy that levels at this stage
pub record HasRunAt {D P : Type 0} (trace : D → DiskTrace) (tell : P → PortTrace) (stage : ℕ) (start : List ℕ) (migration rounds : ℕ) (opened : Journaled D) (before now : FleetPorts P) (disk : D) (answer : LevelAnswer) : Type 0 where
  pub policy : OpView → ℕ
  pub levels : LevelsBy stage policy
  pub under : HasRunUnder trace tell policy migration rounds opened start before now disk answer

-- at the stage at which what the book found is levelled
pub record HasRunLevelling {D P : Type 0} (trace : D → DiskTrace) (tell : P → PortTrace) (origin : BackFrom) (migration rounds : ℕ) (opened : Journaled D) (before now : FleetPorts P) (disk : D) (answer : LevelAnswer) : Type 0 where
  pub stage : ℕ
  pub turns : TurnsFrom origin opened.rollout opened.history stage
  pub at : HasRunAt trace tell stage (start_of opened.rollout opened.history stage) migration rounds opened before now disk answer

-- The book of a rollout was opened on this disk, and run as that of a rollout is, under a policy that levels at the stage at which what was found is levelled before it goes back.
pub record HasLevelled {D P : Type 0} (trace : D → DiskTrace) (tell : P → PortTrace) (origin : BackFrom) (r : Rollout) (digest : Digest) (rounds : ℕ) (disk : D) (before now : FleetPorts P) (levelled : D) (answer : LevelAnswer) : Type 0 where
  pub policy : OpView → ℕ
  pub run : RunOutcome
  pub rolled : HasRolled trace tell r digest policy rounds disk before now levelled run
  pub stage : ℕ
  pub turns : TurnsFrom origin rolled.book.rollout rolled.book.history stage
  pub levels : LevelsBy stage policy
  pub tells : answer ≡ level_for run (start_of rolled.book.rollout rolled.book.history stage)
