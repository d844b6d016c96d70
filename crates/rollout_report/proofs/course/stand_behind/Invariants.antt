use Rattle.std.proofs.Common.{◌≡◌}
use Rattle.rollout_rules.specs.Wan.{next_stage}
use Rattle.rollout_rules.specs.Operations.{changes_to}
use Rattle.rollout_report.proofs.course.stand_behind.Given as goal

-- there is no change from the stage after up to this one
abbrev pub invariant-loop-s : goal.invariant-loop-s
invariant-loop-s l = changes_to l.plan.problem l.plan.plan l.item l.s ≡ changes_to l.plan.problem l.plan.plan l.item (next_stage l.plan.plan l.here)
