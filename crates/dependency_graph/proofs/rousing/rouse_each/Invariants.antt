use Rattle.std.proofs.Common.{ℕ, ◌<◌}
use Rattle.dependency_graph.specs.Wakes.{Rouses}
use Rattle.dependency_graph.specs.Waiting.{IsRoused}
use Rattle.dependency_graph.proofs.rousing.rouse_each.Given as goal

abbrev pub invariant-loop-item : goal.invariant-loop-item
invariant-loop-item l = Rouses l.initial.wakes l.wakes × ((n : ℕ) → n < l.item → IsRoused l.course l.wakes n)
