use Rattle.std.proofs.Common.{◌≡◌, ◌≤◌, ◌*◌, ◌^◌}
use Rattle.rollout_rules.specs.Sums.{sum_below}
use Rattle.dependency_graph.specs.Ahead.{width_share}
use Rattle.dependency_graph.specs.Index.{place_at}
use Rattle.dependency_graph.proofs.progress.room.entries.Given as goal

abbrev pub invariant-loop-place : goal.invariant-loop-place
invariant-loop-place l = record {
  value : l.sum ≡ sum_below l.place-index (λ j. width_share l.plan l.progress l.ahead l.op l.s (place_at l.place-items j).tunnel (place_at l.place-items j).item);
  small : l.sum ≤ l.place-index * 2 ^ 32;
}
