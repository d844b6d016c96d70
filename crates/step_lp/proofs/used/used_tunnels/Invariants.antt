use Rattle.std.proofs.Common.{◌≡◌}
use Rattle.step_lp.specs.Program as program
use Rattle.step_lp.proofs.used.used_tunnels.Given as goal

abbrev pub invariant-loop-tunnel : goal.invariant-loop-tunnel
invariant-loop-tunnel l =
    l.used ≡ program.used_to l.problem l.tunnel
