use Rattle.std.proofs.lemmas.Result.{IfOk-weaker}
use Rattle.sim_run.proofs.Books.{opened-again, opens-again}
use Rattle.sim_run.proofs.booked.open_after_crash.Goals as goal

pub opened_over-again-requires : goal.opened_over-again-requires
opened_over-again-requires c =
    opens-again c.args.book c.into_parts-graph.result.0 c.into_parts-graph.result.1 c.into_parts-graph.ensures.graph c.into_parts-graph.ensures.disk c.is_found_again.ensures

pub returns : goal.returns
returns c =
    IfOk-weaker c.opened_over-again.result _ _
    (λ again over. opened-again c.args.book c.into_parts-graph.result.0 c.into_parts-graph.result.1 again c.requires c.into_parts-graph.ensures.graph c.into_parts-graph.ensures.disk c.is_found_again.ensures over)
    c.opened_over-again.ensures
