use Rattle.plan_choose.proofs.Enough.{still-enough, direct-enough, steps-enough, slack-enough}
use Rattle.text_commands.proofs.Complete.{enough-answers}
use Rattle.text_commands.proofs.laws.what_fits_is_planned.Goals as goal

pub returns-clause-still : goal.returns-clause-still
returns-clause-still c = λ planner input p short read free equal. enough-answers planner input p short read (still-enough p free equal)

pub returns-clause-direct : goal.returns-clause-direct
returns-clause-direct c = λ planner input p short read free valid. enough-answers planner input p short read (direct-enough p free valid)

pub returns-clause-steps : goal.returns-clause-steps
returns-clause-steps c = λ planner input p q short read free least most some. enough-answers planner input p short read (steps-enough p free q least most some)

pub returns-clause-slack : goal.returns-clause-slack
returns-clause-slack c = λ planner input p k short read free least most has. enough-answers planner input p short read (slack-enough p free k least most has)
