use Rattle.scratch_plan.proofs.Frames.{frame-valid}
use Rattle.scratch_plan.proofs.laws.rate_steps_give_a_plan.Goals as goal

pub returns : goal.returns
returns c = λ p scale rows net room are. frame-valid p scale rows room are net
