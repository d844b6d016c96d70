use Rattle.std.proofs.Common.{◌∙◌, sym, ap, slice_index}
use Rattle.dependency_graph.specs.Cells.{resource_at}
use Rattle.dependency_graph.specs.Touched.{gain}
use Rattle.dependency_graph.proofs.Gains.{falls-gain}
use Rattle.dependency_graph.proofs.amounts.fall.Goals as goal

pub returns : goal.returns
returns c =
    let r = c.args.plan.now in
    let q = slice_index c.args.row.now.resources c.args.k in
    c.gain.ensures ∙ ap (λ n. gain r.problem r.plan n c.args.x c.args.item (resource_at r.problem q)) c.next_stage.ensures.value ∙ sym (falls-gain r c.args.item c.args.x q c.requires.stage)
