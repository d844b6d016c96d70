use Rattle.std.proofs.Common.{◌≡◌}
use Rattle.rollout_rules.specs.Sums.{list_below}
use Rattle.held_service.specs.Questions.{asked_home}
use Rattle.held_service.proofs.homes.asked_homes.Given as goal

-- the switches of the items so far
abbrev pub invariant-loop-number : goal.invariant-loop-number
invariant-loop-number l = l.homes ≡ list_below l.number (asked_home l.plan.problem l.plan.plan)
