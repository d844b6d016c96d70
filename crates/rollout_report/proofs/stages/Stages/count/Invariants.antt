use Rattle.std.proofs.Common.{◌≡◌, ◌≤◌}
use Rattle.rollout_rules.specs.Operations.{changes_to}
use Rattle.rollout_report.specs.Tallies.{IsCounted}
use Rattle.rollout_report.proofs.stages.Stages.count.Given as goal

-- the stages before this one are counted
abbrev pub invariant-loop-s : goal.invariant-loop-s
invariant-loop-s l = record {
  changes : l.changes ≡ changes_to l.plan.problem l.plan.plan l.item l.s;
  few : l.changes ≤ l.s;
  counted : IsCounted l.plan.problem l.plan.plan l.item l.settled l.s l.fn.self (record { all = l.self-inside.all.items; settled = l.self-inside.settled.items });
}
