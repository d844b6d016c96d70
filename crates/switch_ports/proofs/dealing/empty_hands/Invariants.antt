use Rattle.std.proofs.Common.{◌≡◌, ◌≤◌, []}
use Rattle.switch_ports.specs.Hands.{hands}
use Rattle.switch_ports.proofs.dealing.empty_hands.Given as goal

abbrev pub invariant-loop : goal.invariant-loop
invariant-loop g l = record {
  fresh : l.workers.items ≡ hands l.counter [];
  long : l.workers.len ≡ l.counter;
  room : l.count ≤ l.workers.cap;
}
