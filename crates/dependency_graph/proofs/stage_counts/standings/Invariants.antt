use Rattle.dependency_graph.specs.StageCounts.{AreStageCounts}
use Rattle.dependency_graph.proofs.stage_counts.standings.Given as goal

-- the items before this one are counted
abbrev pub invariant-loop-item : goal.invariant-loop-item
invariant-loop-item l = AreStageCounts l.last l.stages l.item l.counts.items
