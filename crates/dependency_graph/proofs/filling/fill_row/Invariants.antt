use Rattle.std.proofs.Common.{[]}
use Rattle.dependency_graph.specs.Ahead.{places_with}
use Rattle.dependency_graph.specs.Cells.{AreFilled}
use Rattle.dependency_graph.proofs.filling.fill_row.Given as goal

abbrev pub invariant-loop-stage : goal.invariant-loop-stage
invariant-loop-stage l = AreFilled l.plan (places_with l.plan l.progress []) l.low l.resource l.stage l.cells
