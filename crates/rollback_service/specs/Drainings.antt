-- What draining a rollout comes to.
use Rattle.std.specs.Prelude.{ℕ}
use Rattle.rollout_rules.specs.Wan.{Rollout}
use Rattle.rollout_rules.specs.declared.op.OpView.{OpView}
use Rattle.disk_model.specs.Traces.{DiskTrace}
use Rattle.intent_journal.specs.declared.digest.Digest.{Digest}
use Rattle.wan_edge.specs.Ports.{PortTrace}
use Rattle.rollout_book.specs.JournaledRounds.{Journaled}
use Rattle.switch_ports.specs.Berths.{FleetPorts}
use Rattle.controller_run.specs.RolloutEnds.{HasRolled, HasRun}
use Rattle.controller_run.specs.declared.outcome.RunOutcome.{RunOutcome}
use Rattle.rollback_service.specs.Levellings.{LevelsBy}

-- A policy holds all back: each item stands at stage 0 or past it.
abbrev pub HoldsAll : (OpView → ℕ) → Type 0
HoldsAll policy = LevelsBy 0 policy

-- A book was run from its opening on, and closed, under a policy that levels at this stage.
pub record HasRunFrom {D P : Type 0} (trace : D → DiskTrace) (tell : P → PortTrace) (stage migration rounds : ℕ) (opened : Journaled D) (before now : FleetPorts P) (disk : D) (outcome : RunOutcome) : Type 0 where
  pub policy : OpView → ℕ
  pub levels : LevelsBy stage policy
  pub run : HasRun trace tell policy migration rounds opened before now disk outcome

-- The book of a rollout was opened on this disk, and run under a policy that holds all back.
pub record HasDrained {D P : Type 0} (trace : D → DiskTrace) (tell : P → PortTrace) (r : Rollout) (digest : Digest) (rounds : ℕ) (disk : D) (before now : FleetPorts P) (drained : D) (outcome : RunOutcome) : Type 0 where
  pub policy : OpView → ℕ
  pub holds : HoldsAll policy
  pub rolled : HasRolled trace tell r digest policy rounds disk before now drained outcome
