use Rattle.std.proofs.Common.{◌≡◌, ◌++◌}
use Rattle.rollout_report.specs.Tallies.{lines_of}
use Rattle.rollout_report.proofs.reporting.push_stages.Given as goal

abbrev pub invariant-loop-stage : goal.invariant-loop-stage
invariant-loop-stage l = l.text ≡ l.fn.text ++ lines_of l.stages l.stage
