use Rattle.std.proofs.Common.{◌≡◌, ◌≤◌}
use Rattle.plan_texts.specs.Loads.{greatest_at}
use Rattle.plan_texts.specs.Rows.{cell}
use Rattle.plan_texts.proofs.fullest.greatest_at.Given as goal

abbrev pub invariant-loop-s : goal.invariant-loop-s
invariant-loop-s l = record {
  best : l.best ≡ greatest_at (cell l.rows l.place) l.s;
  low : l.best ≤ l.s;
}
