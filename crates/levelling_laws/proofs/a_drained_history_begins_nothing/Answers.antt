use Rattle.levelling_laws.proofs.Drained.{list-begins_nothing, next-begins_nothing}
use Rattle.levelling_laws.proofs.a_drained_history_begins_nothing.Goals as goal

pub returns : goal.returns
returns c = record {
  list = λ o ws n net valid holds legal. list-begins_nothing o net valid holds ws legal n;
  next = λ o ws later w n net valid holds legal. next-begins_nothing o net valid holds ws later w legal n;
}
