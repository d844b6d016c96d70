use Rattle.std.proofs.Common.{◌≡◌, ℕ, ◌<◌, get_or, length}
use Rattle.rollout_report.proofs.counts.at_start.Given as goal

-- the counts before this one are those of the start
abbrev pub invariant-loop-item : goal.invariant-loop-item
invariant-loop-item l = record {
  all : length l.counts.items ≡ l.items;
  each : (n : ℕ) → n < l.item → get_or l.counts.items n 0 ≡ get_or l.history.start n 0;
}
