use Rattle.rollout_report.specs.Peaks.{front}
use Rattle.rollout_report.specs.Counts.{AreCountsOf}
use Rattle.rollout_report.proofs.counts.Counts.over.Given as goal

abbrev pub invariant-loop-place : goal.invariant-loop-place
invariant-loop-place l = AreCountsOf l.plan.problem (front l.history l.place) l.counts
