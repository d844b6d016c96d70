use Rattle.std.proofs.Common.{[]}
use Rattle.dependency_graph.specs.Ahead.{places_with}
use Rattle.dependency_graph.specs.Cells.{AreFilled}
use Rattle.dependency_graph.proofs.filling.fill.Given as goal

abbrev pub invariant-loop-resource : goal.invariant-loop-resource
invariant-loop-resource l = AreFilled l.plan (places_with l.plan l.progress []) l.low l.resource l.low l.cells
