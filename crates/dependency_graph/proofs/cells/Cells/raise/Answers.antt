use Rattle.std.proofs.Common.{◌<◌, ◌*◌, ap, arith}
use Rattle.dependency_graph.specs.Cells.{only}
use Rattle.dependency_graph.proofs.Raised.{raised-past, raised-more}
use Rattle.dependency_graph.proofs.cells.Cells.raise.Goals as goal

pub raise_one-requires-clause-stage : goal.raise_one-requires-clause-stage
raise_one-requires-clause-stage c = omega (arith, c.loop-stage-test.true, c.requires.stages, c.loop-stage.invariant.stages)

pub raise_one-requires-clause-inside : goal.raise_one-requires-clause-inside
raise_one-requires-clause-inside c =
    omega (arith, c.requires.inside c.loop-stage.stage c.loop-stage.auto.stage c.loop-stage-test.true, c.loop-stage.invariant.all, ap (λ n. c.args.resource * n) c.loop-stage.invariant.stages)

pub raise_one-requires-clause-fits : goal.raise_one-requires-clause-fits
raise_one-requires-clause-fits c =
    let s = c.loop-stage.stage in
    let inside = c.requires.inside s c.loop-stage.auto.stage c.loop-stage-test.true in
    let here : s < c.args.self.now.stages = omega (arith, c.loop-stage-test.true, c.requires.stages) in
    let same = raised-past c.args.low s (only c.args.resource c.args.amount) c.args.self.now c.loop-stage.self c.loop-stage.invariant c.args.resource s here inside (omega arith) in
    omega (arith, same, c.requires.fits s c.loop-stage.auto.stage c.loop-stage-test.true)

pub loop-stage-preserved : goal.loop-stage-preserved
loop-stage-preserved c =
    raised-more c.args.low c.loop-stage.stage (only c.args.resource c.args.amount) c.args.self.now c.loop-stage.self c.raise_one.new.self c.loop-stage.auto.stage c.loop-stage.invariant c.raise_one.ensures
