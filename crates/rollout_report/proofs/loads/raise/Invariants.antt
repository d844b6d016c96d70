use Rattle.rollout_report.specs.Loads.{AreRaised}
use Rattle.rollout_report.proofs.loads.raise.Given as goal

abbrev pub invariant-loop-place : goal.invariant-loop-place
invariant-loop-place l = AreRaised l.plan.problem l.flow l.place l.sums l.initial.peaks l.peaks
