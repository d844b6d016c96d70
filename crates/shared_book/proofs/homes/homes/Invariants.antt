use Rattle.std.proofs.Common.{◌≡◌}
use Rattle.rollout_rules.specs.Sums.{list_below}
use Rattle.shared_book.specs.Homes.{home_at}
use Rattle.shared_book.proofs.homes.homes.Given as goal

-- the homes of the items so far
abbrev pub invariant-loop-item : goal.invariant-loop-item
invariant-loop-item l = l.homes ≡ list_below l.item-index (home_at l.plan.problem)
