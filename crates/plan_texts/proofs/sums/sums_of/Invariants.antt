use Rattle.std.proofs.Common.{◌≡◌, take}
use Rattle.plan_texts.proofs.sums.sums_of.Given as goal

abbrev pub invariant-loop-sum : goal.invariant-loop-sum
invariant-loop-sum l = l.list ≡ take l.sum-index l.sums
