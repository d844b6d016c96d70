use Rattle.std.proofs.Common.{◌≡◌, ◌++◌, length}
use Rattle.rollout_rules.specs.Sums.{list_below}
use Rattle.step_lp.specs.declared.limit.Limit.TheVariants as limit
use Rattle.step_lp.specs.Program as program
use Rattle.step_lp.proofs.limits.add_links.Given as goal

abbrev pub invariant-loop-step : goal.invariant-loop-step
invariant-loop-step l =
    l.limits ≡ l.initial.limits ++ program.joined_below l.step (λ s. list_below (length l.problem.links) (limit.Link s))
