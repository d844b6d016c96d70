use Rattle.std.proofs.Common.{arith, length-append}
use Rattle.intent_journal.proofs.Rows.{length-row_of, put_next}
use Rattle.intent_journal.proofs.body.fill.Goals as goal

pub loop-rest-preserved : goal.loop-rest-preserved
loop-rest-preserved c =
    let next = put_next _ _ _ c.loop-rest.rest.now _ (grind (arith, c.in-len1-up)) c.loop-rest.invariant.bytes c.put_entry.ensures.bytes in
    record {
      bytes = next;
      room = grind (arith, c.put_entry.ensures.bytes, length-append, length-row_of);
      capacity = omega arith;
    }
