use Rattle.std.proofs.Common.{ℕ, ◌<◌, slice_index}
use Rattle.dependency_graph.specs.Wakes.{Rouses, AreWokenFrom}
use Rattle.dependency_graph.proofs.rousing.free_row.Given as goal

abbrev pub invariant-loop-k : goal.invariant-loop-k
invariant-loop-k l = Rouses l.initial.wakes l.wakes × ((j : ℕ) → j < l.k → AreWokenFrom (slice_index l.row j) l.wakes)
