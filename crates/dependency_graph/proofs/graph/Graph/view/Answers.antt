use Rattle.std.proofs.Common.{sym}
use Rattle.dependency_graph.proofs.Viewed.{viewed-item, viewed-stage}
use Rattle.dependency_graph.proofs.graph.Graph.view.Goals as goal

pub chain-requires-clause-item : goal.chain-requires-clause-item
chain-requires-clause-item c =
    viewed-item c.args.self.now c.self.inside.course c.self.inside.chains c.args.item c.item.result (sym c.self.view_is) c.self.invariant.graph.longest c.requires.item c.item.ensures

pub chain-requires-clause-stage : goal.chain-requires-clause-stage
chain-requires-clause-stage c =
    viewed-stage c.args.self.now c.self.inside.course c.self.inside.chains c.self.inside.plan c.args.item c.stands-stage.result (sym c.self.view_is) c.self.invariant.graph.longest c.self.invariant.graph.own c.requires.item c.requires.next c.stands-stage.ensures
