use Rattle.std.proofs.Common.{sym, ◌∙◌}
use Rattle.plan_check.proofs.Firsts.{unbroken-valid, broken-invalid}
use Rattle.plan_check.proofs.check.check_plan.Goals as goal

pub returns-in-Some-clause-valid : goal.returns-in-Some-clause-valid
returns-in-Some-clause-valid c = broken-invalid c.args.problem.now c.args.plan.now c.in-Some.broken (sym c.in_ok-broken.ensures ∙ c.in-Some.is)

pub returns-in-None-clause-valid : goal.returns-in-None-clause-valid
returns-in-None-clause-valid c = unbroken-valid c.args.problem.now c.args.plan.now (sym c.in_ok-broken.ensures ∙ c.in-None.is)
