use Rattle.intent_journal.proofs.Listings.{keeps_list}
use Rattle.intent_journal.proofs.laws.the_rows_of_entries_are_these_entries.Goals as goal

pub returns : goal.returns
returns c = λ kept image rows keeps. keeps_list c.args.entries.now kept image c.see_all.ensures rows keeps
