use Rattle.std.proofs.Common.{◌≡◌, ℕ, ◌<◌, length}
use Rattle.dependency_graph.specs.StageCounts.{standing}
use Rattle.dependency_graph.proofs.stage_counts.StageCounts.least_from.Given as goal

-- no item stands before this stage
abbrev pub invariant-loop-stage : goal.invariant-loop-stage
invariant-loop-stage l = (s : ℕ) → s < l.stage → standing l.self.stages (length l.self.stages) s ≡ 0
