use Rattle.dependency_graph.specs.Cells.{among, rises, AreRaised}
use Rattle.dependency_graph.proofs.changing.raise_row.Given as goal

-- the resources ahead of this place have their share
abbrev pub invariant-loop-k : goal.invariant-loop-k
invariant-loop-k l = AreRaised l.low l.x (among l.row.resources (rises l.plan l.item l.x) l.k) l.initial.cells l.cells
