use Rattle.std.proofs.Common.{arith}
use Rattle.intent_journal.proofs.Legality.{no_end}
use Rattle.intent_journal.proofs.following.may_end.Goals as goal

pub returns-then-op-items-clause-may : goal.returns-then-op-items-clause-may
returns-then-op-items-clause-may c =
    no_end c.args.graph.now c.args.op c.requires.legal
    (omega (arith, c.if-op-items.true, c.requires.items))
