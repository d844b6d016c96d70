use Rattle.rollback_plan.proofs.StageStarts.{back_start-is_sound, back_start-contents, back_start-number}
use Rattle.rollback_plan.proofs.stages.the_way_back_begins_at_each_stage.Goals as goal

pub returns : goal.returns
returns c = record {
  sound = λ p plan s net valid most. back_start-is_sound p plan s valid most net;
  content = λ p plan s n valid most lt. back_start-contents p plan s valid most n lt;
  number = λ p plan s n valid most lt. back_start-number p plan s valid most n lt;
}
