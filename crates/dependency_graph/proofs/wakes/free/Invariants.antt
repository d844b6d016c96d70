use Rattle.dependency_graph.specs.Wakes.{Rouses, AreAwake, joined}
use Rattle.dependency_graph.proofs.Waking.{kept_sum}
use Rattle.dependency_graph.proofs.wakes.free.Given as goal

abbrev pub invariant-loop-item : goal.invariant-loop-item
invariant-loop-item l = AreAwake l.woken l.kept × Rouses (joined l.initial.woken l.initial.kept) (joined l.woken l.kept)

abbrev pub decreases-loop-item : goal.decreases-loop-item
decreases-loop-item l = kept_sum l.kept
