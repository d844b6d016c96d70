use Rattle.intent_journal.proofs.Listings.{verdict_stood}
use Rattle.intent_journal.proofs.laws.what_was_judged_is_the_list_of_the_image.Goals as goal

pub returns : goal.returns
returns c = verdict_stood
