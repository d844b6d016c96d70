use Rattle.std.proofs.Common.{◌≡◌}
use Rattle.rollout_rules.specs.Sums.{list_below}
use Rattle.case_gen.specs.Rings.{walked}
use Rattle.case_gen.proofs.ring.walk.Given as goal

abbrev pub invariant-loop-j : goal.invariant-loop-j
invariant-loop-j l = l.path ≡ list_below l.j (walked l.switches l.start l.step)
