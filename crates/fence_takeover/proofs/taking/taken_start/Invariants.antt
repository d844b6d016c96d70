use Rattle.std.proofs.Common.{◌≡◌}
use Rattle.rollout_rules.specs.Sums.{list_below}
use Rattle.held_service.specs.Noting.{noted_at}
use Rattle.fence_takeover.specs.Starts.{number_in}
use Rattle.fence_takeover.proofs.Taken.{MayAllBeTaken}
use Rattle.fence_takeover.proofs.taking.taken_start.Given as goal

-- the numbers of the items so far, each of which may be taken
abbrev pub invariant-loop-item : goal.invariant-loop-item
invariant-loop-item l = record {
  start : l.start ≡ list_below l.item (λ n. number_in l.migration (noted_at l.notes n));
  each : MayAllBeTaken l.plan.problem l.plan.plan l.migration l.notes l.item;
}
