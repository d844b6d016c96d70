use Rattle.retarget_plan.proofs.AimedSheds.{stand-empties, stand-is_planned}
use Rattle.retarget_plan.proofs.laws.shedding_from_a_stand_takes_one_step.Goals as goal

pub returns : goal.returns
returns c = record {
  planned = λ p plan h link q aimed net fits. stand-is_planned p plan h link q aimed net fits;
  empty = λ p plan h link q t aimed lt crossing. stand-empties p plan h link q aimed t lt crossing;
}
