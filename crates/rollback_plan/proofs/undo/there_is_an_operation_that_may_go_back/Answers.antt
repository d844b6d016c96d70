use Rattle.rollback_plan.proofs.Undone.{one-may_go_back}
use Rattle.rollback_plan.proofs.undo.there_is_an_operation_that_may_go_back.Goals as goal

pub returns : goal.returns
returns c = λ p plan h left legal low n some. one-may_go_back p plan left h legal low n some
