use Rattle.std.proofs.Common.{◌≡◌, arith}
use Rattle.rollout_rules.specs.Items.{item_count}
use Rattle.rollback_plan.proofs.Turned.{turn-all, turn-next}
use Rattle.rollback_plan.proofs.here.turn_start.Goals as goal

pub loop-item-preserved : goal.loop-item-preserved
loop-item-preserved c =
    let g = c.args.graph.now in
    turn-next g.rollout.problem g.rollout.plan g.history c.args.stage c.loop-item.item c.left_from.result c.loop-item.start _ c.loop-item.invariant c.left_from.ensures c.in_ok-push.ensures.ok

pub returns : goal.returns
returns c =
    let g = c.args.graph.now in
    let all : c.loop-item.item ≡ item_count g.rollout.problem = omega (arith, c.item_count-item-end.ensures) in
    turn-all g.rollout.problem g.rollout.plan g.history c.args.stage c.loop-item.item c.loop-item.start all c.loop-item.invariant
