use Rattle.std.proofs.Common.{sym, ap, ◌∙◌}
use Rattle.intent_journal.specs.Reading.{whole_list}
use Rattle.intent_journal.proofs.Behind.{entries_read}
use Rattle.intent_journal.proofs.walking.entries_behind.Goals as goal

pub returns : goal.returns
returns c =
    c.whole_of.ensures
    ∙ ap whole_list (sym (entries_read c.args.image.now c.args.gate _ _ _ c.new-listed.ensures c.in_ok-walk.ensures.walks c.in_ok-walk.ensures.ends))
