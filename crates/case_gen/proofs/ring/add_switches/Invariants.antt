use Rattle.std.proofs.Common.{◌≡◌}
use Rattle.rollout_rules.specs.Building.{no_problem}
use Rattle.case_gen.specs.Rings.{switches_below}
use Rattle.case_gen.proofs.ring.add_switches.Given as goal

abbrev pub invariant-loop-number : goal.invariant-loop-number
invariant-loop-number l = l.problem ≡ record no_problem { switches = switches_below l.tables l.number-counter }
