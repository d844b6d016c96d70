use Rattle.std.proofs.Common.{◌≡◌, [], arith}
use Rattle.rollout_rules.specs.Wan.{last_stage}
use Rattle.dependency_graph.specs.Ahead.{places_with}
use Rattle.dependency_graph.proofs.Filled.{filled-more, filled-next}
use Rattle.dependency_graph.proofs.RowSteps.{cells-inside}
use Rattle.dependency_graph.proofs.filling.fill_row.Goals as goal

pub set-requires : goal.set-requires
set-requires c = cells-inside c.args.plan.now c.loop-stage.cells c.loop-stage.invariant.cells c.args.resource c.loop-stage.stage c.requires.resource (omega (arith, c.loop-stage-test.true, c.last_stage-stage-end.ensures.value))

pub loop-stage-preserved : goal.loop-stage-preserved
loop-stage-preserved c =
    let r = c.args.plan.now in
    filled-more r (places_with r c.args.progress.now []) c.args.low c.args.resource c.loop-stage.stage c.few_room-room.result c.loop-stage.cells c.set.new.self
    c.requires.resource (omega (arith, c.loop-stage-test.true, c.last_stage-stage-end.ensures.value)) c.few_room-room.ensures c.set.ensures c.loop-stage.invariant

pub returns : goal.returns
returns c =
    let r = c.args.plan.now in
    let end : c.loop-stage.stage ≡ last_stage r.plan = omega (arith, c.loop-stage-test.false, c.loop-stage.auto.stage-end, c.last_stage-stage-end.ensures.value, c.requires.within) in
    filled-next r (places_with r c.args.progress.now []) c.args.low c.args.resource c.loop-stage.stage c.loop-stage.cells end c.loop-stage.invariant
