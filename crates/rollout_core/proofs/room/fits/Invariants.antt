use Rattle.std.proofs.Common.{◌≡◌, ◌||◌, true, nat_lt}
use Rattle.rollout_rules.specs.Sums.{all_below}
use Rattle.rollout_rules.specs.Room.{least_stage, fits_at}
use Rattle.dependency_graph.specs.Ahead.{places_begun}
use Rattle.rollout_core.proofs.room.fits.Given as goal

abbrev pub invariant-loop-stage : goal.invariant-loop-stage
invariant-loop-stage l =
    all_below l.stage (λ s. nat_lt s (least_stage l.plan.problem l.plan.plan (places_begun l.plan l.progress l.ahead l.op)) || fits_at l.plan.problem l.plan.plan (places_begun l.plan l.progress l.ahead l.op) s) ≡ true
