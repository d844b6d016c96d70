use Rattle.std.proofs.Common.{arith}
use Rattle.plan_texts.proofs.fullest.later_if_greater.Goals as goal

pub read-most-requires-clause-stage : goal.read-most-requires-clause-stage
read-most-requires-clause-stage c = omega (arith, c.requires.rows.count, c.requires.order)

pub read-most-requires-clause-place : goal.read-most-requires-clause-place
read-most-requires-clause-place c = c.requires.rows.each c.args.best (omega (arith, c.requires.order))

pub read-other-requires-clause-stage : goal.read-other-requires-clause-stage
read-other-requires-clause-stage c = omega (arith, c.requires.rows.count)

pub read-other-requires-clause-place : goal.read-other-requires-clause-place
read-other-requires-clause-place c = c.requires.rows.each c.args.s (omega arith)
