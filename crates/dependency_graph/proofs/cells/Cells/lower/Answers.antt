use Rattle.std.proofs.Common.{◌<◌, ◌+◌, ◌*◌, length, ap, arith}
use Rattle.dependency_graph.specs.Cells.{only}
use Rattle.dependency_graph.proofs.Raised.{raised-past, raised-after}
use Rattle.dependency_graph.proofs.cells.Cells.lower.Goals as goal

pub lower_one-requires-clause-stage : goal.lower_one-requires-clause-stage
lower_one-requires-clause-stage c = omega (arith, c.loop-stage-test.true, c.requires.stages, c.loop-stage.invariant.stages)

pub lower_one-requires-clause-inside : goal.lower_one-requires-clause-inside
lower_one-requires-clause-inside c =
    omega (arith, c.requires.inside c.loop-stage.stage c.loop-stage.auto.stage c.loop-stage-test.true, c.loop-stage.invariant.all, ap (λ n. c.args.resource * n) c.loop-stage.invariant.stages)

pub lower_one-requires-clause-enough : goal.lower_one-requires-clause-enough
lower_one-requires-clause-enough c =
    let s = c.loop-stage.stage in
    let here : s < c.loop-stage.self.stages = omega (arith, c.loop-stage-test.true, c.requires.stages, c.loop-stage.invariant.stages) in
    let inside : c.args.resource * c.loop-stage.self.stages + s < length c.loop-stage.self.cells =
    omega (arith, c.requires.inside s c.loop-stage.auto.stage c.loop-stage-test.true, c.loop-stage.invariant.all, ap (λ n. c.args.resource * n) c.loop-stage.invariant.stages) in
    let same = raised-past c.args.low s (only c.args.resource c.args.amount) c.loop-stage.self c.args.self.now c.loop-stage.invariant c.args.resource s here inside (omega arith) in
    omega (arith, same, c.requires.enough s c.loop-stage.auto.stage c.loop-stage-test.true)

pub loop-stage-preserved : goal.loop-stage-preserved
loop-stage-preserved c =
    raised-after c.args.low c.loop-stage.stage (only c.args.resource c.args.amount) c.lower_one.new.self c.loop-stage.self c.args.self.now c.loop-stage.auto.stage c.lower_one.ensures c.loop-stage.invariant
