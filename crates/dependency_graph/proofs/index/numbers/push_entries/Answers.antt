use Rattle.std.proofs.Common.{◌+◌, ◌<◌, sym, ap, subst, arith, length}
use Rattle.rollout_rules.specs.Wan.{hops}
use Rattle.rollout_rules.specs.Items.{number_of}
use Rattle.rollout_rules.specs.declared.item.Item.TheVariants as item
use Rattle.dependency_graph.specs.Index.{AreItems}
use Rattle.dependency_graph.proofs.Growing.{items-entry}
use Rattle.dependency_graph.proofs.index.numbers.push_entries.Goals as goal

pub loop-hop-preserved : goal.loop-hop-preserved
loop-hop-preserved c =
    let p = c.args.plan.now.problem in
    let low : c.loop-hop.hop < hops p c.args.t = omega (arith, ap length c.path-hop-end.ensures.list) in
    subst (λ row. AreItems p (number_of p (item.Entry c.args.t (c.loop-hop.hop + 1))) row) (sym c.in_ok-push.ensures.ok)
    (items-entry p c.args.t c.loop-hop.hop c.loop-hop.row c.requires.tunnel low c.loop-hop.invariant)
