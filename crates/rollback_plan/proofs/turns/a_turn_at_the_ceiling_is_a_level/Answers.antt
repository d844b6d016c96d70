use Rattle.rollback_plan.proofs.TurnContents.{comes-to_ceiling, so_far-levelled}
use Rattle.rollback_plan.proofs.TurnStages.{start-at_ceiling, turns-at_ceiling}
use Rattle.rollback_plan.proofs.turns.a_turn_at_the_ceiling_is_a_level.Goals as goal

pub returns : goal.returns
returns c = record {
  comes = λ p plan h n legal lt. comes-to_ceiling p plan h legal n lt;
  start = λ p plan h net valid legal. start-at_ceiling p plan h net valid legal;
  turns = λ p plan h net valid legal. turns-at_ceiling p plan h net valid legal;
  level = λ p plan found h legal come. so_far-levelled p plan found legal h come;
}
