use Rattle.std.proofs.Common.{Some, sym, ap, ◌∙◌}
use Rattle.rollout_rules.specs.Valid.{is_valid_plan}
use Rattle.scratch_plan.proofs.Stills.{still-valid}
use Rattle.plan_choose.specs.Choice.{direct_plan}
use Rattle.plan_choose.proofs.Choices.{where_valid-valid}
use Rattle.plan_choose.proofs.choosing.best_plan.Goals as goal

pub returns-then-has_equal_rates-clause-valid : goal.returns-then-has_equal_rates-clause-valid
returns-then-has_equal_rates-clause-valid c =
    ap (is_valid_plan c.args.problem.now) c.in_ok-still.ensures
    ∙ still-valid c.args.problem.now c.has_equal_rates.ensures.network c.requires.fits (sym c.has_equal_rates.ensures.value ∙ c.if-has_equal_rates.true)

pub returns-in-Some-clause-valid : goal.returns-in-Some-clause-valid
returns-in-Some-clause-valid c = where_valid-valid c.args.problem.now (Some (direct_plan c.args.problem.now)) c.in-Some.plan (sym c.in_ok-plan.ensures ∙ c.in-Some.is)
