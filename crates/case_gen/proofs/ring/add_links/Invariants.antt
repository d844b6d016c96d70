use Rattle.std.proofs.Common.{◌≡◌}
use Rattle.case_gen.specs.Rings.{links_below}
use Rattle.case_gen.proofs.ring.add_links.Given as goal

abbrev pub invariant-loop-number : goal.invariant-loop-number
invariant-loop-number l = l.problem ≡ record l.fn.problem { links = links_below l.switches l.capacities l.number }
