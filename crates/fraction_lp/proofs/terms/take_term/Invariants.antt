use Rattle.std.proofs.Common.{◌≡◌, ◌++◌, take, drop}
use Rattle.fraction_lp.specs.Dictionary.{coefficient_at, without}
use Rattle.fraction_lp.proofs.terms.take_term.Given as goal

abbrev pub invariant-loop-place : goal.invariant-loop-place
invariant-loop-place l =
    (l.terms.items ≡ l.initial.terms.items)
    × (coefficient_at l.number l.terms.items ≡ coefficient_at l.number (drop l.place l.terms.items))
    × (without l.number l.terms.items ≡ take l.place l.terms.items ++ without l.number (drop l.place l.terms.items))
