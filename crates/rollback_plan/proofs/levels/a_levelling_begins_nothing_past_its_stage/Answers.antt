use Rattle.rollback_plan.proofs.Levelling.{release-up_to, batch-up_to}
use Rattle.rollback_plan.proofs.levels.a_levelling_begins_nothing_past_its_stage.Goals as goal

pub returns : goal.returns
returns c = record {
  release = λ p plan policy h s net valid legal most holds up. release-up_to p plan s most net valid policy holds h legal up;
  batch = λ p plan policy h s answers net valid legal most holds up. batch-up_to p plan s most net valid policy holds h legal up answers;
}
