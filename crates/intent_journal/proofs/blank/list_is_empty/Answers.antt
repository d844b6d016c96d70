use Rattle.std.proofs.Common.{rules}
use Rattle.intent_journal.proofs.Blanks.{empty_list}
use Rattle.intent_journal.proofs.blank.list_is_empty.Goals as goal

pub returns : goal.returns
returns c = empty_list _ _ c.args.image.now _ _ _ c.in_ok-listed.ensures (search rules) (search rules)
