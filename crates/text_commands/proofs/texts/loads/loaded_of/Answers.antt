use Rattle.std.proofs.Common.{refl}
use Rattle.text_commands.proofs.Documents.{checked-loaded, sealed-loads}
use Rattle.text_commands.proofs.texts.loads.loaded_of.Goals as goal

pub returns-clause-gives : goal.returns-clause-gives
returns-clause-gives c = checked-loaded _ _ _ c.in_ok-plan.ensures.gives refl

pub returns-clause-safe : goal.returns-clause-safe
returns-clause-safe c = sealed-loads c.args.document c.in_ok-plan.plan c.in_ok-plan.ensures.sealed c.a_step_holds_both_of_its_ends.ensures
