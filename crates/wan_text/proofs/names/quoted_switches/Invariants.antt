use Rattle.std.proofs.Common.{◌≡◌, map, take}
use Rattle.wan_text.specs.Named.{quoted_name}
use Rattle.wan_text.proofs.names.quoted_switches.Given as goal

abbrev pub invariant-loop-switch : goal.invariant-loop-switch
invariant-loop-switch l = l.names ≡ map quoted_name (take l.switch-index l.switches)
