use Rattle.std.proofs.Common.{arith}
use Rattle.std.proofs.lemmas.Grind.{common_steps}
use Rattle.wan_model.proofs.Counted.{entry-within, entry-past, entry-behind}
use Rattle.wan_model.proofs.items.entry_at.Goals as goal

pub returns-then-left-hops : goal.returns-then-left-hops
returns-then-left-hops c = grind (arith, common_steps, entry-within, c.loop-t.invariant)

pub loop-t-preserved : goal.loop-t-preserved
loop-t-preserved c = grind (arith, common_steps, entry-past, c.loop-t.invariant)

pub returns : goal.returns
returns c = grind (arith, common_steps, entry-behind, c.loop-t.invariant)
