use Rattle.std.proofs.Common.{◌≡◌}
use Rattle.rollout_rules.specs.Items.{item_count}
use Rattle.measure.proofs.tries.print_releases.Given as goal

abbrev pub invariant-loop-time : goal.invariant-loop-time
invariant-loop-time g l = l.bench.items ≡ item_count l.graph.rollout.problem
