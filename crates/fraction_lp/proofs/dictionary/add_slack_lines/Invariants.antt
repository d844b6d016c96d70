use Rattle.std.proofs.Common.{◌≡◌, ◌++◌, map, take}
use Rattle.fraction_lp.specs.Dictionary.{slack_line}
use Rattle.fraction_lp.proofs.dictionary.add_slack_lines.Given as goal

abbrev pub invariant-loop-row : goal.invariant-loop-row
invariant-loop-row l = l.lines.items ≡ l.initial.lines.items ++ map slack_line (take l.row-index l.rows)
