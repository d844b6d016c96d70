use Rattle.std.proofs.Common.{◌≡◌, take}
use Rattle.plan_check.proofs.link_loads.nums_of.Given as goal

abbrev pub invariant-loop-sum : goal.invariant-loop-sum
invariant-loop-sum l = l.nums ≡ take l.sum-index l.sums
