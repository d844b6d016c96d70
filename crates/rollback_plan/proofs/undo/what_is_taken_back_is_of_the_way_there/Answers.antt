use Rattle.rollback_plan.proofs.Undone.{left-is_of_the_way, left-is_safe}
use Rattle.rollback_plan.proofs.undo.what_is_taken_back_is_of_the_way_there.Goals as goal

pub returns : goal.returns
returns c = record {
  on_the_way = λ p plan h least most held legal goes low high. left-is_of_the_way p plan h least most held legal goes low high;
  safe = λ p plan h least most held net valid legal goes low high. left-is_safe p plan h least most held legal goes low high net valid;
}
