use Rattle.std.proofs.Common.{◌-◌, length}
use Rattle.intent_journal.specs.Reading.{Walks}
use Rattle.intent_journal.proofs.walking.walk.Given as goal

abbrev pub invariant-loop-count : goal.invariant-loop-count
invariant-loop-count l = Walks l.bytes l.from l.gate l.fn.listed l.listed

abbrev pub decreases-loop-count : goal.decreases-loop-count
decreases-loop-count l = length l.bytes - l.gate
