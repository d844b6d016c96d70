use Rattle.std.proofs.Common.{◌≡◌}
use Rattle.rollout_rules.specs.Sums.{list_below}
use Rattle.rollout_rules.specs.World.{held_of}
use Rattle.takeover_core.proofs.starting.pairs_held.Given as goal

abbrev pub invariant-loop-item : goal.invariant-loop-item
invariant-loop-item l = l.pairs.items ≡ list_below l.item (λ n. (held_of l.world.world n).held)
