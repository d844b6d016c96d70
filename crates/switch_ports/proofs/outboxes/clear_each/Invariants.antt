use Rattle.std.proofs.Common.{◌≡◌, [], ◌++◌, take, drop, map}
use Rattle.switch_ports.proofs.outboxes.clear_each.Given as goal

abbrev pub invariant-loop-outbox : goal.invariant-loop-outbox
invariant-loop-outbox l = map (λ _. []) l.initial.outbox-items ≡ take l.outbox-index l.outbox-items ++ map (λ _. []) (drop l.outbox-index l.outbox-items)
