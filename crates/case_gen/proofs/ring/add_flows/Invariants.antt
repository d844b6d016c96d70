use Rattle.std.proofs.Common.{◌≡◌}
use Rattle.case_gen.specs.Rings.{flows_below, tunnels_below}
use Rattle.case_gen.proofs.ring.add_flows.Given as goal

abbrev pub invariant-loop-number : goal.invariant-loop-number
invariant-loop-number l = l.problem ≡ record l.fn.problem { flows = flows_below l.number; tunnels = tunnels_below l.switches l.trips l.number }
