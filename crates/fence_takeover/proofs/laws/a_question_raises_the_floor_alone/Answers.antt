use Rattle.fence_takeover.proofs.Asked.{answer-alone, floor-alone, held-alone}
use Rattle.fence_takeover.proofs.laws.a_question_raises_the_floor_alone.Goals as goal

pub returns : goal.returns
returns c = record { after = floor-alone; answer = answer-alone; several = held-alone }
