use Rattle.std.proofs.Common.{◌<◌, ◌≤◌, sym, ap, subst, arith}
use Rattle.rollout_rules.specs.Wan.{Rollout, last_stage}
use Rattle.rollout_rules.specs.Items.{item_count}
use Rattle.rollout_laws.proofs.Standing.{stand-most}
use Rattle.dependency_graph.proofs.Standings.{is_item-read}
use Rattle.dependency_graph.proofs.progress.restand.Goals as goal

pub stand_after-requires : goal.stand_after-requires
stand_after-requires c =
    let lt : c.loop-item.item < item_count c.args.plan.now.problem = omega (arith, c.loop-item-test.true, c.item_count-item-end.ensures, ap (λ (q : Rollout). item_count q.problem) c.requires.own) in
    is_item-read c.args.plan.now c.args.index.now c.loop-item.item c.item.result (sym c.requires.own) lt c.item.ensures

pub set-requires-clause-stage : goal.set-requires-clause-stage
set-requires-clause-stage c =
    let r = c.args.plan.now in
    let most = subst (λ x. x ≤ last_stage r.plan) (sym c.stand_after.ensures) (stand-most r.problem r.plan c.item.result _) in
    omega (arith, most, c.loop-item.invariant.last)
