use Rattle.std.proofs.Common.{length}
use Rattle.dependency_graph.specs.Index.{AreEmpty}
use Rattle.dependency_graph.specs.Touched.{AreRows}
use Rattle.dependency_graph.proofs.resources.push_rows.Given as goal

abbrev pub invariant-loop-item : goal.invariant-loop-item
invariant-loop-item l = record {
  rows : AreRows l.plan.problem l.rows l.item;
  scratch : AreEmpty (length l.plan.problem.links) l.scratch.items;
}
