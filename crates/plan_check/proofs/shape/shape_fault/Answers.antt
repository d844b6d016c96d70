use Rattle.std.proofs.Common.{sym, ◌∙◌, arith}
use Rattle.wan_model.proofs.Shapes.{parts-IsShaped}
use Rattle.plan_check.proofs.Firsts.{unbroken-full}
use Rattle.plan_check.proofs.shape.shape_fault.Goals as goal

pub returns-clause-shape : goal.returns-clause-shape
returns-clause-shape c none =
    parts-IsShaped c.args.problem.now c.args.plan.now (grind arith) (grind arith) (grind arith) (unbroken-full c.args.problem.now c.args.plan.now (sym c.first_not_full.ensures ∙ none))
