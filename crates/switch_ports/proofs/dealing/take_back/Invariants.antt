use Rattle.std.proofs.Common.{◌≡◌, ◌≤◌, ◌+◌, List, length}
use Rattle.switch_ports.specs.declared.ports.Berth.{Berth}
use Rattle.switch_ports.specs.Hands.{hands}
use Rattle.switch_ports.proofs.Turns.{TakenBack}
use Rattle.switch_ports.proofs.dealing.take_back.Given as goal

abbrev pub invariant-loop-place : goal.invariant-loop-place
invariant-loop-place g l = record {
  so_far : (berths : List (Berth _)) → length berths ≡ l.fn.dealt → l.fn.workers.items ≡ hands (length l.fn.workers.items) berths → TakenBack (length l.fn.workers.items) berths l.fn.left.items l.left.items l.workers.items l.place;
  long : l.workers.len ≡ l.fn.workers.len;
  within : l.place ≤ l.fn.dealt;
  room : l.left.len + l.place ≤ l.left.cap;
}

abbrev pub decreases-loop-place : goal.decreases-loop-place
decreases-loop-place g l = l.place
