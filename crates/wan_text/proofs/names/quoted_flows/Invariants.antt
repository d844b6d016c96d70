use Rattle.std.proofs.Common.{◌≡◌, map, take}
use Rattle.wan_text.specs.Named.{quoted_flow}
use Rattle.wan_text.proofs.names.quoted_flows.Given as goal

abbrev pub invariant-loop-flow : goal.invariant-loop-flow
invariant-loop-flow l = l.names ≡ map quoted_flow (take l.flow-index l.flows)
