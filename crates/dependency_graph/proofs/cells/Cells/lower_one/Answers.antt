use Rattle.std.proofs.Common.{◌-◌, ◌+◌, ◌*◌, ◌∙◌, ap, set}
use Rattle.dependency_graph.proofs.Raised.{lowered-one}
use Rattle.dependency_graph.proofs.cells.Cells.lower_one.Goals as goal

pub returns : goal.returns
returns c =
    let t = c.args.self.now in
    lowered-one t c.set.new.self c.args.resource c.args.stage c.args.amount c.requires.stage c.requires.inside c.requires.enough
    (c.set.ensures ∙ ap (λ n. record t { cells = set t.cells (c.args.resource * t.stages + c.args.stage) (n - c.args.amount) }) c.cell.ensures)
