use Rattle.rollout_report.specs.Tallies.{AreStageCounts}
use Rattle.rollout_report.proofs.stages.Stages.over.Given as goal

-- the items before this one are counted
abbrev pub invariant-loop-number : goal.invariant-loop-number
invariant-loop-number l = AreStageCounts l.plan.problem l.plan.plan l.counts.settled l.number l.stages
