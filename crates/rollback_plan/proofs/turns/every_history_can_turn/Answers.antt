use Rattle.rollback_plan.proofs.TurnStages.{turns-somewhere}
use Rattle.rollback_plan.proofs.turns.every_history_can_turn.Goals as goal

pub returns : goal.returns
returns c = λ p plan h net valid legal. turns-somewhere p plan h net valid legal
