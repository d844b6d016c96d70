use Rattle.rollback_plan.proofs.Undone.{all-left, one-goes_back, some-are_back}
use Rattle.rollback_plan.proofs.undo.an_operation_goes_back_once_those_behind_it_are_back.Goals as goal

pub returns : goal.returns
returns c = record {
  at_first = λ p plan h legal. all-left p plan h legal;
  goes = λ p h least most op goes last past may. one-goes_back p h least most goes op last past may;
  comes = λ p h least most fewer goes enough few. some-are_back p h least most goes fewer enough few;
}
