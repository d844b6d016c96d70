use Rattle.std.proofs.Common.{sym, ◌∙◌}
use Rattle.retarget_plan.proofs.Found.{none-where, some-where_not}
use Rattle.retarget_plan.proofs.limits.large_capacity.Goals as goal

pub returns-then-is_within : goal.returns-then-is_within
returns-then-is_within c = none-where _ _ (sym c.is_within.ensures ∙ c.if-is_within.true)

pub returns : goal.returns
returns c = some-where_not _ _ (sym c.is_within.ensures ∙ c.if-is_within.false)
