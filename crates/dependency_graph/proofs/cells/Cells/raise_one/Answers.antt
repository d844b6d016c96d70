use Rattle.std.proofs.Common.{◌+◌, ◌*◌, ◌∙◌, ap, set}
use Rattle.dependency_graph.proofs.Raised.{raised-one}
use Rattle.dependency_graph.proofs.cells.Cells.raise_one.Goals as goal

pub returns : goal.returns
returns c =
    let t = c.args.self.now in
    raised-one t c.set.new.self c.args.resource c.args.stage c.args.amount c.requires.stage c.requires.inside
    (c.set.ensures ∙ ap (λ n. record t { cells = set t.cells (c.args.resource * t.stages + c.args.stage) (n + c.args.amount) }) c.cell.ensures)
