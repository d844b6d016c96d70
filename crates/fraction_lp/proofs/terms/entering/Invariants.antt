use Rattle.std.proofs.Common.{◌≡◌, drop}
use Rattle.fraction_lp.specs.Dictionary.{entering}
use Rattle.fraction_lp.proofs.terms.entering.Given as goal

abbrev pub invariant-loop-term : goal.invariant-loop-term
invariant-loop-term l = entering l.terms ≡ entering (drop l.term-index l.terms)
