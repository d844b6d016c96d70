use Rattle.rollout_report.specs.Passing.{IsPast}
use Rattle.rollout_report.proofs.pass.Pass.over.Given as goal

abbrev pub invariant-loop-place : goal.invariant-loop-place
invariant-loop-place l = IsPast l.plan l.history l.place l.pass
