use Rattle.std.proofs.Common.{◌≡◌, true, slice_index}
use Rattle.rollout_rules.specs.Sums.{all_below}
use Rattle.dependency_graph.specs.Cells.{rises, cell_holds}
use Rattle.dependency_graph.proofs.changing.first_lacking.Given as goal

abbrev pub invariant-loop-k : goal.invariant-loop-k
invariant-loop-k l = all_below l.k (λ k. all_below l.x (cell_holds l.plan l.cells l.low (slice_index l.row.resources k) (rises l.plan l.item l.x (slice_index l.row.resources k)))) ≡ true
