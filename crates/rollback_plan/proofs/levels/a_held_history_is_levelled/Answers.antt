use Rattle.rollback_plan.proofs.Levelling.{finished-levelled, held-levelled}
use Rattle.rollback_plan.proofs.levels.a_held_history_is_levelled.Goals as goal

pub returns : goal.returns
returns c = record {
  held = λ p plan policy h s net valid legal most holds up. held-levelled p plan s most net valid h legal up policy holds;
  finished = λ p plan h s most up. finished-levelled p plan s most h up;
}
