use Rattle.std.proofs.Common.{◌≡◌, ◌≤◌, ◌+◌, length, reverse}
use Rattle.switch_ports.proofs.Turns.{Dealt}
use Rattle.switch_ports.proofs.dealing.deal_each.Given as goal

abbrev pub invariant-loop-berth : goal.invariant-loop-berth
invariant-loop-berth g l = record {
  so_far : Dealt (length l.fn.workers.items) (reverse l.fn.left.items) l.left.items l.workers.items l.dealt;
  long : l.workers.len ≡ l.fn.workers.len;
  count : l.dealt + l.left.len ≡ l.fn.left.len;
  room : l.fn.left.len ≤ l.left.cap;
}

abbrev pub decreases-loop-berth : goal.decreases-loop-berth
decreases-loop-berth g l = l.left.len
