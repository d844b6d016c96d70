use Rattle.std.proofs.Common.{◌≡◌, true, nat_le}
use Rattle.rollout_rules.specs.Sums.{all_below}
use Rattle.rollout_rules.specs.History.{stand}
use Rattle.rollout_rules.specs.Needs.{installed_since}
use Rattle.rollout_rules.specs.declared.item.Item.TheVariants as item
use Rattle.dependency_graph.specs.Ahead.{places_with}
use Rattle.dependency_graph.proofs.progress.needs.entries_past.Given as goal

abbrev pub invariant-loop-hop : goal.invariant-loop-hop
invariant-loop-hop l = all_below l.hop (λ h. nat_le (installed_since l.plan.plan l.t l.s) (stand l.plan.problem l.plan.plan (places_with l.plan l.progress l.ahead) (item.Entry l.t h))) ≡ true
