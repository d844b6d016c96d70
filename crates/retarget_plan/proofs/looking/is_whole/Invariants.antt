use Rattle.std.proofs.Common.{◌≡◌, true}
use Rattle.rollout_rules.specs.History.{places_of}
use Rattle.rollout_rules.specs.Sums.{all_below}
use Rattle.rollout_rules.specs.Safe.{settled_mark}
use Rattle.rollout_rules.specs.Valid.{same_mark}
use Rattle.retarget_plan.proofs.looking.is_whole.Given as goal

abbrev pub invariant-loop-hop : goal.invariant-loop-hop
invariant-loop-hop l =
    all_below l.hop
    (λ h. same_mark (settled_mark l.plan.problem l.plan.plan (places_of l.plan.problem l.graph.history) l.tunnel h) (settled_mark l.plan.problem l.plan.plan (places_of l.plan.problem l.graph.history) l.tunnel 0))
    ≡ true
