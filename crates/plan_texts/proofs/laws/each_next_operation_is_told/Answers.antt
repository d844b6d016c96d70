use Rattle.plan_texts.proofs.Told.{next-told}
use Rattle.plan_texts.proofs.laws.each_next_operation_is_told.Goals as goal

pub returns : goal.returns
returns c = λ p plan h n lt left. next-told p plan h n lt left
