use Rattle.levelling_laws.proofs.Shared.{list-up_to, each-up_to}
use Rattle.levelling_laws.proofs.a_shared_history_leads_no_further.Goals as goal

pub returns : goal.returns
returns c = record {
  list = λ o ws s net valid most holds found legal. list-up_to o s most net valid holds found ws legal;
  next = λ o ws later w s net valid most holds found legal. each-up_to o s most net valid holds found ws later w legal;
}
