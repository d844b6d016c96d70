use Rattle.std.proofs.Common.{◌≡◌, take, map}
use Rattle.scratch_plan.specs.Frame.{stage_of}
use Rattle.scratch_plan.specs.Marks.{is_used}
use Rattle.scratch_plan.specs.Building.{with_stages}
use Rattle.scratch_plan.proofs.framing.add_rates.Given as goal

abbrev pub invariant-loop-row : goal.invariant-loop-row
invariant-loop-row l = l.plan ≡ with_stages l.initial.plan (map (λ row. stage_of l.problem row is_used) (take l.row-index l.rows))
