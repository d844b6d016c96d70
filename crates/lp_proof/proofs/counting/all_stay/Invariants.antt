use Rattle.std.proofs.Common.{◌≡◌, true}
use Rattle.rollout_rules.specs.Sums.{all_below}
use Rattle.lp_proof.specs.RateSteps.{stays_at}
use Rattle.lp_proof.proofs.counting.all_stay.Given as goal

abbrev pub invariant-loop-t : goal.invariant-loop-t
invariant-loop-t l = all_below l.t (stays_at l.plan.plan l.s) ≡ true
