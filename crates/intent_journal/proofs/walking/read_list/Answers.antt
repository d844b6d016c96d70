use Rattle.std.proofs.Common.{rules}
use Rattle.intent_journal.proofs.WholeBatches.{IsRead-walked}
use Rattle.intent_journal.proofs.walking.read_list.Goals as goal

pub returns : goal.returns
returns c = IsRead-walked _ _ c.first_gate.result _ c.add_rows.new.self _ (search rules) (search rules) (search rules) (search rules) (search rules)
