use Rattle.std.proofs.Common.{rules, arith}
use Rattle.intent_journal.proofs.NumbersRead.{numbers_end, numbers_next}
use Rattle.intent_journal.proofs.starting.numbers.Goals as goal

pub loop-number-preserved : goal.loop-number-preserved
loop-number-preserved c = record {
  within = omega (arith, c.loop-number-test.true);
  read = numbers_next c.loop-number.list.items _ _ _ _ c.loop-number.rest.now _ c.number_of_4.result c.loop-number-test.true (search rules) (search rules) (search rules) c.loop-number.invariant.read;
}

pub returns : goal.returns
returns c = numbers_end _ _ _ _ c.loop-number.rest.now c.loop-number.invariant.within c.loop-number-test.false c.loop-number.invariant.read
