use Rattle.std.proofs.Common.{◌+◌, ◌≤◌, sym, ap, subst, arith, length}
use Rattle.wan_model.proofs.Counted.{first-few}
use Rattle.dependency_graph.specs.Index.{AreFirstEntries}
use Rattle.dependency_graph.proofs.Growing.{firsts-push, number_of-next}
use Rattle.dependency_graph.proofs.index.numbers.first_entries.Goals as goal

pub overflow_add-next : goal.overflow_add-next
overflow_add-next c =
    let p = c.args.plan.now.problem in
    let t = c.loop-t.t in
    let below : t + 1 ≤ length p.tunnels = grind arith in
    omega (arith, c.loop-t.invariant.next, ap length c.path.ensures.list, number_of-next p t, first-few p (t + 1) c.path.ensures.network below)

pub loop-t-preserved : goal.loop-t-preserved
loop-t-preserved c =
    let p = c.args.plan.now.problem in
    let t = c.loop-t.t in
    record {
      row = subst (λ row. AreFirstEntries p (t + 1) row) (sym c.in_ok-push.ensures.ok) (firsts-push p t c.loop-t.row c.loop-t.next c.loop-t.invariant.next c.loop-t.invariant.row);
      next = omega (arith, c.loop-t.invariant.next, ap length c.path.ensures.list, number_of-next p t);
    }
