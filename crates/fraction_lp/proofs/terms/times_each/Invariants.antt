use Rattle.std.proofs.Common.{◌≡◌, drop}
use Rattle.fraction_lp.specs.Dictionary.{times_each}
use Rattle.fraction_lp.specs.Steps.{behind}
use Rattle.fraction_lp.proofs.terms.times_each.Given as goal

abbrev pub invariant-loop-term : goal.invariant-loop-term
invariant-loop-term l =
    behind l.initial.made.items (times_each l.t l.terms) ≡ behind l.made.items (times_each l.t (drop l.term-index l.terms))
