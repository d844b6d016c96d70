use Rattle.dependency_graph.specs.StageCounts.{AreRestood}
use Rattle.dependency_graph.proofs.progress.restand.Given as goal

abbrev pub invariant-loop-item : goal.invariant-loop-item
invariant-loop-item l = AreRestood l.plan l.start l.item l.stands
