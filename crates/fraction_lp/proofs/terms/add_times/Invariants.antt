use Rattle.std.proofs.Common.{◌≡◌, drop}
use Rattle.fraction_lp.specs.Dictionary.{add_times}
use Rattle.fraction_lp.specs.Steps.{behind}
use Rattle.fraction_lp.proofs.terms.add_times.Given as goal

abbrev pub invariant-loop-term : goal.invariant-loop-term
invariant-loop-term l =
    behind l.initial.made.items (add_times l.t l.terms l.others)
    ≡ behind l.made.items (add_times l.t (drop l.term-index l.terms) l.rest)
