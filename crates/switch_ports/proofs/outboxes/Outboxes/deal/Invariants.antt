use Rattle.std.proofs.Common.{◌≡◌, map, take}
use Rattle.switch_ports.specs.Outboxes.{own}
use Rattle.switch_ports.proofs.outboxes.Outboxes.deal.Given as goal

abbrev pub invariant-loop-command : goal.invariant-loop-command
invariant-loop-command l = record {
  switches : l.self.switches ≡ l.fn.self.switches;
  dealt : l.self.outboxes ≡ map (λ w. own l.homes w (take l.command-index l.commands)) l.fn.self.switches;
}
