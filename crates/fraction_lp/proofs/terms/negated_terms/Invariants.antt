use Rattle.std.proofs.Common.{◌≡◌, ◌++◌, drop}
use Rattle.fraction_lp.specs.Dictionary.{negated_terms}
use Rattle.fraction_lp.proofs.terms.negated_terms.Given as goal

abbrev pub invariant-loop-number : goal.invariant-loop-number
invariant-loop-number l =
    negated_terms 0 l.coefficients ≡ l.terms.items ++ negated_terms l.number (drop l.number l.coefficients)
