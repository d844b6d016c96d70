use Rattle.rollout_book.proofs.Verdicts.{image-stands}
use Rattle.rollout_book.proofs.laws.a_legal_list_is_found_again.Goals as goal

pub returns : goal.returns
returns c = λ r digest kept image start numbered legal keeps own turn starts rows.
    image-stands r digest start c.args.entries.now numbered legal image kept keeps own turn starts (c.the_rows_of_entries_are_these_entries.ensures kept image rows keeps)
