use Rattle.std.proofs.Common.{◌≡◌, ◌<◌, ℕ, ◌∙◌, sym, ap, subst, arith}
use Rattle.rollout_rules.specs.Wan.{Rollout}
use Rattle.rollout_rules.specs.Items.{item_count}
use Rattle.rollout_core.specs.Worlds.{Standing}
use Rattle.takeover_core.specs.Standings.{held_from, holding_now}
use Rattle.takeover_core.proofs.Sharings.{one_more}
use Rattle.takeover_core.proofs.sharing.share.Goals as goal

pub hold-requires : goal.hold-requires
hold-requires c =
    subst (λ (q : Rollout). c.loop-item.item < item_count q.problem) (c.requires ∙ sym (ap (λ (s : Standing). s.rollout) c.loop-item.invariant))
    (omega (arith, c.loop-item-test.true, c.items-item-end.ensures))

pub loop-item-preserved : goal.loop-item-preserved
loop-item-preserved c =
    one_more c.args.from.now c.args.to.now c.loop-item.to _ c.loop-item.item c.held.result c.loop-item.invariant c.held.ensures c.hold.ensures

pub returns : goal.returns
returns c =
    let from = c.args.from.now in
    let to = c.args.to.now in
    let end : c.loop-item.item ≡ item_count from.rollout.problem = omega (arith, c.loop-item-test.false, c.loop-item.auto.item-end, c.items-item-end.ensures) in
    c.loop-item.invariant
    ∙ ap (λ (n : ℕ). holding_now to (held_from to.rollout.problem to.rollout.plan to.world from.world.held n)) (end ∙ ap (λ (q : Rollout). item_count q.problem) c.requires)
