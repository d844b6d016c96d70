use Rattle.std.proofs.Common.{◌≡◌, ◌++◌}
use Rattle.rollout_rules.specs.History.{History}
use Rattle.rollout_report.specs.Peaks.{peaks_of}
use Rattle.rollout_report.specs.Ends.{table_lines}
use Rattle.rollout_report.proofs.ends.push_table_lines.Given as goal

abbrev pub invariant-loop-number : goal.invariant-loop-number
invariant-loop-number l = (h : History) → l.peaks ≡ peaks_of l.plan.problem l.plan.plan h → l.text ≡ l.fn.text ++ table_lines l.plan.problem l.plan.plan h l.number
