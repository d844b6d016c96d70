use Rattle.std.proofs.Common.{◌≡◌}
use Rattle.fraction_lp.specs.Dictionary.{multipliers}
use Rattle.fraction_lp.proofs.dictionary.Dictionary.multipliers.Given as goal

abbrev pub invariant-loop-row : goal.invariant-loop-row
invariant-loop-row l = l.multipliers ≡ multipliers l.b l.terms l.first l.row
