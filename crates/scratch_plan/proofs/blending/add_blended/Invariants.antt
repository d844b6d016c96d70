use Rattle.std.proofs.Common.{◌≡◌, ◌+◌, map}
use Rattle.rollout_rules.specs.Sums.{list_below}
use Rattle.scratch_plan.specs.Building.{with_stages}
use Rattle.scratch_plan.specs.Frame.{stage_of}
use Rattle.scratch_plan.specs.Marks.{is_used}
use Rattle.scratch_plan.specs.Scratch.{blended_row}
use Rattle.scratch_plan.proofs.blending.add_blended.Given as goal

abbrev pub invariant-loop-a : goal.invariant-loop-a
invariant-loop-a l = l.plan ≡ with_stages l.initial.plan (map (λ row. stage_of l.problem row is_used) (list_below l.a (λ a. blended_row l.problem l.n (a + 1))))
