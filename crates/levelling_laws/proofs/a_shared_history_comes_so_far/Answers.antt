use Rattle.levelling_laws.proofs.Shared.{each-so_far, ended-so_far, held-so_far, list-so_far}
use Rattle.levelling_laws.proofs.a_shared_history_comes_so_far.Goals as goal

pub returns : goal.returns
returns c = record {
  list = λ o ws s net valid most holds legal. list-so_far o s most net valid holds ws legal;
  next = λ o ws later w s net valid most holds legal. each-so_far o s most net valid holds ws later w legal;
  held = λ o ws s net valid most holds legal. held-so_far o s most net valid holds ws legal;
  finished = λ o ws s net valid most holds legal. ended-so_far o s most net valid holds ws legal;
}
