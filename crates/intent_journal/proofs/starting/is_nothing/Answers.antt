use Rattle.std.proofs.Common.{arith}
use Rattle.intent_journal.proofs.Nothing.{all-zero, zero-next}
use Rattle.intent_journal.proofs.starting.is_nothing.Goals as goal

pub loop-item-preserved : goal.loop-item-preserved
loop-item-preserved c = zero-next c.args.start.now c.loop-item.item c.loop-item.invariant (grind arith)

pub returns : goal.returns
returns c = λ is. all-zero c.args.start.now (λ k lt. c.loop-item.invariant k (omega (arith, lt, c.loop-item-test.false)))
