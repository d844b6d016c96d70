use Rattle.std.proofs.Common.{◌≡◌, take, reverse}
use Rattle.rollback_plan.proofs.turning.back_plan.Given as goal

abbrev pub invariant-loop-s : goal.invariant-loop-s
invariant-loop-s l = l.there ≡ record { scale = l.plan.scale; stages = take l.s (reverse l.plan.stages) }
