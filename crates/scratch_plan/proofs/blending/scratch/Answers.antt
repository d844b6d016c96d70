use Rattle.std.proofs.Common.{◌∙◌}
use Rattle.scratch_plan.specs.Refusals.{refusal}
use Rattle.scratch_plan.proofs.Causes.{nothing}
use Rattle.scratch_plan.proofs.blending.scratch.Goals as goal

pub scratch_over-requires-clause-fits : goal.scratch_over-requires-clause-fits
scratch_over-requires-clause-fits c = nothing (refusal c.args.problem.now) (λ cause e. c.in_default.not-Some cause (c.in_ok-cause.ensures ∙ e))
