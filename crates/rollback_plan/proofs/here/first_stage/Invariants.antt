use Rattle.std.proofs.Common.{◌≡◌, ℕ, ◌<◌, false}
use Rattle.rollback_plan.specs.Turns.{may_turn}
use Rattle.rollback_plan.proofs.here.first_stage.Given as goal

abbrev pub invariant-loop-stage : goal.invariant-loop-stage
invariant-loop-stage l = (t : ℕ) → t < l.stage → may_turn l.graph.rollout.problem l.graph.rollout.plan l.graph.history t ≡ false
