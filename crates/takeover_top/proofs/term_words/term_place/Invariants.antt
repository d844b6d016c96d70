use Rattle.std.proofs.Common.{◌-◌, length}
use Rattle.takeover_top.proofs.TermPlaces.{Passed}
use Rattle.takeover_top.proofs.term_words.term_place.Given as goal

-- the pairs so far name no term
abbrev pub invariant-loop-place : goal.invariant-loop-place
invariant-loop-place l = Passed l.arguments l.place

abbrev pub decreases-loop-place : goal.decreases-loop-place
decreases-loop-place l = length l.arguments - l.place
