use Rattle.std.proofs.Common.{◌≡◌, length}
use Rattle.rollout_rules.specs.Sums.{list_below}
use Rattle.rollout_rules.specs.Items.{entries_at}
use Rattle.plan_texts.specs.Rows.{either_at, ahead_of}
use Rattle.plan_texts.proofs.rows.table_rows.Given as goal

abbrev pub invariant-loop-s : goal.invariant-loop-s
invariant-loop-s l = l.rows ≡ list_below l.s (λ s. list_below (length l.problem.switches) (entries_at l.problem (λ t h. either_at l.plan s (ahead_of l.plan l.ahead s) t)))
