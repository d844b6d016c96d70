use Rattle.std.proofs.Common.{◌∙◌, sym, ap, subst, arith}
use Rattle.dependency_graph.specs.Cells.{has}
use Rattle.dependency_graph.specs.Graph.{Followed}
use Rattle.dependency_graph.specs.Waiting.{AreWoken}
use Rattle.dependency_graph.proofs.Blocked.{waiting-refused}
use Rattle.dependency_graph.proofs.graph.Graph.woken.Goals as goal

pub returns-clause-woken : goal.returns-clause-woken
returns-clause-woken c =
    let s = c.self.inside in
    let waiting = c.self.invariant.waiting in
    subst (λ (g : Followed). AreWoken g c.row.result.now) c.self.view_is (record {
      inside = λ j lt. let there = c.row.ensures.inside j lt in omega (arith, there, waiting.items);
      once = c.row.ensures.once;
      few = omega (arith, c.row.ensures.few, waiting.items);
      rest = λ n none. waiting-refused s.course s.wakes c.history_is_legal.ensures waiting n (ap (λ r. has r n) (sym c.row.ensures.row) ∙ none);
    })
