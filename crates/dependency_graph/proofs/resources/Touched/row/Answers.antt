use Rattle.std.proofs.Common.{◌<◌, length, sym, subst, arith}
use Rattle.rollout_rules.specs.Wan.{Rollout}
use Rattle.rollout_rules.specs.Items.{item_count, item_at}
use Rattle.dependency_graph.specs.Touched.{ItemRow, IsItemRow, no_row}
use Rattle.dependency_graph.proofs.Elements.{read_from}
use Rattle.dependency_graph.proofs.resources.Touched.row.Goals as goal

pub returns : goal.returns
returns c =
    let s = c.self.inside in
    let n = c.args.item in
    let lt = subst (λ (q : Rollout). n < item_count q.problem) (sym c.self.view_is) c.requires in
    let inside : n < length s.rows = omega (arith, lt, c.self.invariant.count) in
    let read = read_from c.as_slice.result.now s.rows n c.index-as_slice-item.result no_row c.as_slice.ensures inside c.index-as_slice-item.is in
    subst (λ (q : Rollout). IsItemRow q.problem (item_at q.problem n) c.index-as_slice-item.result) c.self.view_is
    (subst (λ (row : ItemRow). IsItemRow s.plan.value.problem (item_at s.plan.value.problem n) row) (sym read) (c.self.invariant.each n lt))
