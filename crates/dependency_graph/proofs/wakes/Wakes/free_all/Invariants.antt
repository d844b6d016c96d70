use Rattle.std.proofs.Common.{ℕ, ◌<◌}
use Rattle.dependency_graph.specs.Wakes.{Rouses, AreWokenFrom}
use Rattle.dependency_graph.proofs.wakes.Wakes.free_all.Given as goal

-- those that were kept at the resources so far are woken
abbrev pub invariant-loop-resource : goal.invariant-loop-resource
invariant-loop-resource l = Rouses l.initial.self l.self × ((q : ℕ) → q < l.resource → AreWokenFrom q l.self)
