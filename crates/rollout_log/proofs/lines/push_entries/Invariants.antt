use Rattle.std.proofs.Common.{◌≡◌, ◌++◌, length}
use Rattle.rollout_log.specs.Lines.{lines_at}
use Rattle.rollout_log.proofs.lines.push_entries.Given as goal

abbrev pub invariant-loop-rest : goal.invariant-loop-rest
invariant-loop-rest l = l.text ++ lines_at l.ms l.rest ≡ l.fn.text ++ lines_at l.ms l.entries

abbrev pub decreases-loop-rest : goal.decreases-loop-rest
decreases-loop-rest l = length l.rest
