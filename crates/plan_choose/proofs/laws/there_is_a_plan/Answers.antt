use Rattle.plan_choose.proofs.Enough.{still-enough, direct-enough, steps-enough, slack-enough}
use Rattle.plan_choose.proofs.laws.there_is_a_plan.Goals as goal

pub returns-clause-still : goal.returns-clause-still
returns-clause-still c = still-enough

pub returns-clause-direct : goal.returns-clause-direct
returns-clause-direct c = direct-enough

pub returns-clause-steps : goal.returns-clause-steps
returns-clause-steps c = λ p q free least most some. steps-enough p free q least most some

pub returns-clause-slack : goal.returns-clause-slack
returns-clause-slack c = λ p k free least most has. slack-enough p free k least most has
