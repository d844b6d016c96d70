use Rattle.std.proofs.Common.{◌≡◌}
use Rattle.takeover_core.specs.Standings.{held_from, holding_now}
use Rattle.takeover_core.proofs.sharing.share.Given as goal

-- the items before this one have the pairs of the other world
abbrev pub invariant-loop-item : goal.invariant-loop-item
invariant-loop-item l = l.to ≡ holding_now l.fn.to (held_from l.fn.to.rollout.problem l.fn.to.rollout.plan l.fn.to.world l.from.world.held l.item)
