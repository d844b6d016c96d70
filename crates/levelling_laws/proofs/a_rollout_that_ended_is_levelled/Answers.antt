use Rattle.levelling_laws.proofs.Shared.{held-is_levelled, finished-is_levelled}
use Rattle.levelling_laws.proofs.a_rollout_that_ended_is_levelled.Goals as goal

pub returns : goal.returns
returns c = record {
  held = λ o ws s net valid most holds found legal. held-is_levelled o s most net valid holds found ws legal;
  finished = λ o ws s net valid most holds found legal. finished-is_levelled o s most net valid holds found ws legal;
}
