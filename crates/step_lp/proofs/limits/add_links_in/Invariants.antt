use Rattle.std.proofs.Common.{◌≡◌, ◌++◌}
use Rattle.rollout_rules.specs.Sums.{list_below}
use Rattle.step_lp.specs.declared.limit.Limit.TheVariants as limit
use Rattle.step_lp.proofs.limits.add_links_in.Given as goal

abbrev pub invariant-loop-link : goal.invariant-loop-link
invariant-loop-link l =
    l.limits ≡ l.initial.limits ++ list_below l.link (limit.Link l.step)
