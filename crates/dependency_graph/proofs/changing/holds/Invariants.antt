use Rattle.std.proofs.Common.{◌≡◌, true}
use Rattle.rollout_rules.specs.Sums.{all_below}
use Rattle.dependency_graph.specs.Cells.{cell_holds}
use Rattle.dependency_graph.proofs.changing.holds.Given as goal

abbrev pub invariant-loop-stage : goal.invariant-loop-stage
invariant-loop-stage l = all_below l.stage (cell_holds l.plan l.cells l.low l.resource l.amount) ≡ true
