use Rattle.std.proofs.Common.{rules}
use Rattle.intent_journal.proofs.WholeBatches.{Walks-next, Walks-start}
use Rattle.intent_journal.proofs.walking.walk.Goals as goal

pub loop-count-init : goal.loop-count-init
loop-count-init c = Walks-start _ _ _ c.requires

pub loop-count-preserved : goal.loop-count-preserved
loop-count-preserved c =
    Walks-next _ _ _ _ _ _ _ c.loop-count.invariant (search rules) (search rules)
