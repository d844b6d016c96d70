use Rattle.dependency_graph.specs.StageCounts.{AreStands}
use Rattle.dependency_graph.proofs.progress.first_stages.Given as goal

abbrev pub invariant-loop-item : goal.invariant-loop-item
invariant-loop-item l = AreStands l.plan l.start l.stages.items l.item
