use Rattle.rollback_plan.proofs.Levelling.{levelled-idle, levelled-contents}
use Rattle.rollback_plan.proofs.levels.a_levelled_history_has_a_stages_contents.Goals as goal

pub returns : goal.returns
returns c = record {
  idle = λ p plan h s legal level. levelled-idle p plan h s level;
  content = λ p plan h s n legal most level lt. levelled-contents p plan h s level legal most n lt;
}
