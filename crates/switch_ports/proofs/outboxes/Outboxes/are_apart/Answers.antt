use Rattle.std.proofs.Common.{nat_eq, subst}
use Rattle.std.specs.List.{IsDistinct}
use Rattle.switch_ports.specs.Outboxes.{Dealing}
use Rattle.switch_ports.proofs.outboxes.Outboxes.are_apart.Goals as goal

pub returns : goal.returns
returns c = subst (λ (d : Dealing). IsDistinct nat_eq d.switches) c.self.view_is c.self.invariant.1
