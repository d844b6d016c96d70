use Rattle.std.proofs.Common.{◌≡◌, drop}
use Rattle.fraction_lp.specs.Dictionary.{coefficient_at}
use Rattle.fraction_lp.proofs.terms.coefficient_at.Given as goal

abbrev pub invariant-loop-term : goal.invariant-loop-term
invariant-loop-term l = coefficient_at l.number l.terms ≡ coefficient_at l.number (drop l.term-index l.terms)
