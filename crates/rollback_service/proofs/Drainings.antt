-- What draining comes to, by how its run ended.
use Rattle.std.proofs.Common.{◌≡◌, ℕ, refl, subst}
use Rattle.rollout_rules.specs.Wan.{Rollout}
use Rattle.disk_model.specs.Traces.{DiskTrace}
use Rattle.intent_journal.specs.Openings.{IsOpenedFrom}
use Rattle.intent_journal.specs.declared.digest.Digest.{Digest}
use Rattle.wan_edge.specs.Ports.{PortTrace}
use Rattle.rollout_book.specs.JournaledRounds.{Journaled, IsNewBook, graph_of}
use Rattle.switch_ports.specs.Berths.{FleetPorts}
use Rattle.controller_run.specs.declared.end.RunEnd.TheVariants as run
use Rattle.controller_run.specs.RolloutEnds.{outcome_behind}
use Rattle.controller_run.specs.declared.outcome.RunOutcome.{RunOutcome}
use Rattle.controller_run.proofs.RolloutEnds.{rolled-from}
use Rattle.rollback_plan.specs.Levels.{levelling}
use Rattle.rollback_service.specs.Drainings.{HasDrained, HasRunFrom}
use Rattle.rollback_service.specs.Levellings.{LevelsBy}
use Rattle.rollback_service.proofs.Levellings.{never-has}

-- without memory for the policy nothing was begun
pub never-run : {D P : Type 0} (trace : D → DiskTrace) (tell : P → PortTrace) (stage migration rounds : ℕ) (opened : Journaled D) (before : FleetPorts P) (disk : D) (o : RunOutcome)
    → IsNewBook trace opened → disk ≡ opened.disk → o ≡ outcome_behind opened run.Memory → HasRunFrom trace tell stage migration rounds opened before before disk o
never-run trace tell stage migration rounds opened before disk o new back is = record {
  policy = levelling stage;
  levels = λ view small. refl;
  run = never-has trace tell (levelling stage) migration rounds opened before disk o new back is;
}

-- an opening, and a run of what was opened that levels at stage 0
pub drained-from : {D P : Type 0} (trace : D → DiskTrace) (tell : P → PortTrace) (r : Rollout) (digest : Digest) (stage migration rounds : ℕ) (disk : D) (book : Journaled D) (before now : FleetPorts P) (disk_now : D) (o : RunOutcome)
    → stage ≡ 0 → digest.migration ≡ migration → IsOpenedFrom trace r digest disk (graph_of book) book.entries book.disk → IsNewBook trace book
    → HasRunFrom trace tell stage migration rounds book before now disk_now o → HasDrained trace tell r digest rounds disk before now disk_now o
drained-from trace tell r digest stage migration rounds disk book before now disk_now o zero number opened new ran = record {
  policy = ran.policy;
  holds = subst (λ (s : ℕ). LevelsBy s ran.policy) zero ran.levels;
  rolled = rolled-from trace tell r digest ran.policy ran.policy migration rounds disk book before now disk_now o refl number opened new ran.run;
}
