use Rattle.std.proofs.Common.{◌+◌, ◌<◌, ◌∙◌, sym, ap, subst, arith}
use Rattle.rollout_rules.specs.Wan.{Rollout}
use Rattle.rollout_rules.specs.Items.{item_count, item_at}
use Rattle.dependency_graph.specs.Touched.{IsItemRow, AreRows}
use Rattle.dependency_graph.proofs.Reached.{rows-push}
use Rattle.dependency_graph.proofs.Standings.{is_item-read}
use Rattle.dependency_graph.proofs.resources.push_rows.Goals as goal

pub row-requires-clause-item : goal.row-requires-clause-item
row-requires-clause-item c =
    let lt : c.loop-item.item < item_count c.args.plan.now.problem = omega (arith, c.loop-item-test.true, c.item_count-item-end.ensures, ap (λ (q : Rollout). item_count q.problem) c.requires.own) in
    is_item-read c.args.plan.now c.args.index.now c.loop-item.item c.item.result (sym c.requires.own) lt c.item.ensures

pub loop-item-preserved : goal.loop-item-preserved
loop-item-preserved c =
    let p = c.args.plan.now.problem in
    let is = c.item.ensures ∙ ap (λ (q : Rollout). item_at q.problem c.loop-item.item) c.requires.own in
    let here = subst (λ i. IsItemRow p i c.in_ok-row.field-0) is c.in_ok-row.ensures.row in
    record {
      rows = subst (λ rows. AreRows p rows (c.loop-item.item + 1)) (sym c.in_ok-push.ensures.ok) (rows-push p c.loop-item.rows c.loop-item.item c.in_ok-row.field-0 c.loop-item.invariant.rows here);
      scratch = c.in_ok-row.ensures.scratch;
    }
