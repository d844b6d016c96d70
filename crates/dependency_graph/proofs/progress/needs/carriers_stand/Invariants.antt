use Rattle.std.proofs.Common.{◌≡◌, true}
use Rattle.rollout_rules.specs.Sums.{all_below}
use Rattle.rollout_rules.specs.Wan.{tunnel_of}
use Rattle.dependency_graph.specs.Ahead.{places_with}
use Rattle.dependency_graph.specs.Fits.{carrier_stands}
use Rattle.dependency_graph.proofs.progress.needs.carriers_stand.Given as goal

abbrev pub invariant-loop-j : goal.invariant-loop-j
invariant-loop-j l = all_below l.j (λ j. carrier_stands l.plan.problem l.plan.plan (places_with l.plan l.progress l.ahead) (tunnel_of l.plan.problem l.f j) l.s) ≡ true
