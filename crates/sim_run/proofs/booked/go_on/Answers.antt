use Rattle.std.proofs.Common.{length, ap, ◌∙◌}
use Rattle.dependency_graph.specs.Graph.{Followed}
use Rattle.sim_run.proofs.booked.go_on.Goals as goal

pub returns : goal.returns
returns c =
    let own = c.book_on-book.ensures.own in
    ap length (c.entries.ensures.value ∙ c.entries.ensures.same own.live) ∙ ap (λ (g : Followed). length g.history.entries) c.book_on-book.ensures.graph
