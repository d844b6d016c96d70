use Rattle.std.proofs.Common.{◌≡◌}
use Rattle.fraction_lp.specs.Dictionary.{no_lines}
use Rattle.fraction_lp.proofs.dictionary.Dictionary.first.Given as goal

abbrev pub invariant-loop-unknown : goal.invariant-loop-unknown
invariant-loop-unknown l = l.lines.items ≡ no_lines l._unknown
