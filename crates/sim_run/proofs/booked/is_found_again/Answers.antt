use Rattle.sim_run.proofs.Books.{found-again}
use Rattle.sim_run.proofs.booked.is_found_again.Goals as goal

pub returns : goal.returns
returns c =
    let own = c.requires in
    found-again c.args.book.now c.entries.result.now own (c.entries.ensures.same own.live) c.entries.ensures.value c.graph.ensures.legal (c.entries.ensures.has own.live) c.a_legal_list_is_found_again.ensures
