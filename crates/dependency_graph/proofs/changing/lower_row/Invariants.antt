use Rattle.std.proofs.Common.{◌+◌}
use Rattle.dependency_graph.specs.Cells.{among, falls, AreRaised}
use Rattle.dependency_graph.proofs.changing.lower_row.Given as goal

-- the resources ahead of this place have their share
abbrev pub invariant-loop-k : goal.invariant-loop-k
invariant-loop-k l = AreRaised l.low (l.x + 1) (among l.row.resources (falls l.plan l.item l.x) l.k) l.cells l.initial.cells
