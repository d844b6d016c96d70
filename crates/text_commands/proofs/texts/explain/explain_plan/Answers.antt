use Rattle.std.proofs.Common.{refl}
use Rattle.text_commands.proofs.Documents.{checked-explained, sealed-explained}
use Rattle.text_commands.proofs.texts.explain.explain_plan.Goals as goal

pub returns-clause-gives : goal.returns-clause-gives
returns-clause-gives c = checked-explained _ _ _ c.in_ok-plan.ensures.gives refl

pub returns-clause-safe : goal.returns-clause-safe
returns-clause-safe c = sealed-explained c.args.document c.in_ok-plan.plan c.in_ok-plan.ensures.sealed (c.each_next_operation_is_told.ensures c.args.document.problem c.args.document.plan)
