use Rattle.std.proofs.Common.{◌∙◌}
use Rattle.rollback_plan.proofs.Calls.{copy-given}
use Rattle.rollback_plan.proofs.turning.back_problem.Goals as goal

pub returns : goal.returns
returns c = copy-given c.args.problem.now c.with_rates.result _ _ c.with_rates.ensures (c.as_slice.ensures ∙ c.in_ok-old.ensures.list) (c.as_slice-2.ensures ∙ c.in_ok-new.ensures.list)
