use Rattle.std.proofs.Common.{◌<◌, sym, subst, arith}
use Rattle.rollout_rules.specs.Wan.{Rollout}
use Rattle.rollout_rules.specs.Items.{item_count}
use Rattle.dependency_graph.proofs.Standings.{is_item-read}
use Rattle.dependency_graph.proofs.progress.first_stages.Goals as goal

pub stand_after-requires : goal.stand_after-requires
stand_after-requires c =
    let lt : c.loop-item.item < item_count c.args.index.now.problem = omega (arith, c.item_count-item-end.ensures) in
    let within = subst (λ (q : Rollout). c.loop-item.item < item_count q.problem) c.requires.own lt in
    is_item-read c.args.plan.now c.args.index.now c.loop-item.item c.item.result (sym c.requires.own) within c.item.ensures
