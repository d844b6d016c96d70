use Rattle.std.proofs.Common.{◌∙◌, sym, ap, slice_index}
use Rattle.dependency_graph.specs.Cells.{resource_at}
use Rattle.dependency_graph.specs.Touched.{gain}
use Rattle.dependency_graph.proofs.Gains.{rises-gain}
use Rattle.dependency_graph.proofs.amounts.rise.Goals as goal

pub returns : goal.returns
returns c =
    let r = c.args.plan.now in
    let q = slice_index c.args.row.now.resources c.args.k in
    c.gain.ensures ∙ ap (λ n. gain r.problem r.plan c.args.x n c.args.item (resource_at r.problem q)) c.next_stage.ensures.value ∙ sym (rises-gain r c.args.item c.args.x q)
