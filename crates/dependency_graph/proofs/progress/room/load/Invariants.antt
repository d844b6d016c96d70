use Rattle.std.proofs.Common.{◌≡◌, ◌≤◌, ◌*◌, ◌^◌, slice_index}
use Rattle.rollout_rules.specs.Sums.{sum_below}
use Rattle.dependency_graph.specs.Ahead.{rate_share}
use Rattle.dependency_graph.proofs.progress.room.load.Given as goal

abbrev pub invariant-loop-tunnel : goal.invariant-loop-tunnel
invariant-loop-tunnel l = record {
  value : l.sum ≡ sum_below l.tunnel-index (λ j. rate_share l.plan l.progress l.ahead l.op l.s (slice_index l.tunnel-items j));
  small : l.sum ≤ l.tunnel-index * 2 ^ 64;
}
