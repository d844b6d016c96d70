use Rattle.dependency_graph.specs.Cells.{only, AreRaised}
use Rattle.dependency_graph.proofs.cells.Cells.lower.Given as goal

-- the stages before this one are lowered
abbrev pub invariant-loop-stage : goal.invariant-loop-stage
invariant-loop-stage l = AreRaised l.low l.stage (only l.resource l.amount) l.self l.initial.self
