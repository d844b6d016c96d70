use Rattle.std.proofs.Common.{rules, arith}
use Rattle.intent_journal.proofs.WholeBatches.{rows_next}
use Rattle.intent_journal.proofs.listed.Listed.add_rows.Goals as goal

pub loop-row-preserved : goal.loop-row-preserved
loop-row-preserved c = record {
  within = omega (arith, c.loop-row-test.true);
  read = rows_next c.loop-row.self _ _ _ _ c.loop-row.rest.now _ c.loop-row-test.true (search rules) (search rules) c.loop-row.invariant.read;
}
