use Rattle.dependency_graph.specs.Cells.{only, AreRaised}
use Rattle.dependency_graph.proofs.cells.Cells.raise.Given as goal

-- the stages before this one are raised
abbrev pub invariant-loop-stage : goal.invariant-loop-stage
invariant-loop-stage l = AreRaised l.low l.stage (only l.resource l.amount) l.initial.self l.self
