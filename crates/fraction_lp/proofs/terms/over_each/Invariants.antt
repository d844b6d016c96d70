use Rattle.std.proofs.Common.{◌≡◌, take, drop}
use Rattle.fraction_lp.specs.Dictionary.{over_each}
use Rattle.fraction_lp.specs.Steps.{behind}
use Rattle.fraction_lp.proofs.terms.over_each.Given as goal

abbrev pub invariant-loop-term : goal.invariant-loop-term
invariant-loop-term l =
    over_each l.p l.initial.terms ≡ behind (take l.term-index l.terms) (over_each l.p (drop l.term-index l.terms))
