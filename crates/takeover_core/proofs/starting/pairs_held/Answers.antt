use Rattle.std.proofs.Common.{◌≡◌, ◌∙◌, ℕ, ap, arith}
use Rattle.rollout_rules.specs.Sums.{list_below}
use Rattle.rollout_rules.specs.Items.{item_count}
use Rattle.rollout_rules.specs.World.{held_of}
use Rattle.takeover_core.proofs.Beginnings.{pairs_all}
use Rattle.takeover_core.proofs.starting.pairs_held.Goals as goal

pub returns : goal.returns
returns c =
    let s = c.args.world.now in
    let end : c.loop-item.item ≡ item_count s.rollout.problem = omega (arith, c.loop-item-test.false, c.loop-item.auto.item-end, c.items-item-end.ensures) in
    c.loop-item.invariant ∙ ap (λ (n : ℕ). list_below n (λ k. (held_of s.world k).held)) end ∙ pairs_all s.rollout.problem s.rollout.plan s.world c.requires
