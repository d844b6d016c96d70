use Rattle.std.proofs.Common.{◌≡◌, take}
use Rattle.wan_model.proofs.problem.ids_of.Given as goal

abbrev pub invariant-loop-number : goal.invariant-loop-number
invariant-loop-number l = l.ids ≡ take l.number-index l.numbers
