use Rattle.std.proofs.Common.{◌≡◌, ◌++◌, take, drop}
use Rattle.fraction_lp.specs.Dictionary.{below, from}
use Rattle.fraction_lp.proofs.terms.count_below.Given as goal

abbrev pub invariant-loop-place : goal.invariant-loop-place
invariant-loop-place l =
    (below l.number l.terms ≡ take l.place l.terms ++ below l.number (drop l.place l.terms))
    × (from l.number l.terms ≡ from l.number (drop l.place l.terms))
