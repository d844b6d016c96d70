use Rattle.std.proofs.Common.{◌≡◌, ◌++◌, ◌-◌, drop}
use Rattle.rollout_rules.specs.Building.{links_along}
use Rattle.wan_model.proofs.problem.Problem.links_along.Given as goal

abbrev pub invariant-loop-hop : goal.invariant-loop-hop
invariant-loop-hop l = l.links ++ links_along l.self (drop (l.hop - 1) l.path) ≡ links_along l.self l.path
