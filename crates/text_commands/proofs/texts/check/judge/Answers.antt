use Rattle.text_commands.proofs.Claims.{checked-claimed, sealed-claimed}
use Rattle.text_commands.proofs.texts.check.judge.Goals as goal

pub returns-clause-gives : goal.returns-clause-gives
returns-clause-gives c = checked-claimed c.args.claimed c.in_ok-plan.plan c.line_of-line.result c.in_ok-plan.ensures.gives c.line_of-line.ensures.gives

pub returns-clause-claimed : goal.returns-clause-claimed
returns-clause-claimed c = sealed-claimed c.args.claimed c.in_ok-plan.plan c.line_of-line.result c.in_ok-plan.ensures.sealed c.line_of-line.ensures.least
