use Rattle.std.proofs.Common.{◌≡◌, ◌+◌, ◌<◌, ◌∙◌, slice_index, sym, ap, arith}
use Rattle.rollout_rules.specs.Items.{item_at}
use Rattle.rollout_rules.specs.Operations as operation
use Rattle.dependency_graph.proofs.FirstFaults.{lacks-operation, all-had-there}
use Rattle.dependency_graph.proofs.soundness.lacking_of.Goals as goal

pub returns-then-not-had_needs_at : goal.returns-then-not-had_needs_at
returns-then-not-had_needs_at c =
    let r = c.args.plan.now in
    let n = c.args.item in
    let stand : c.stand-stage-end.result ≡ operation.stand_after r.problem r.plan (item_at r.problem n) (slice_index c.args.progress.now.settled n) = c.stand-stage-end.ensures.value ∙ ap (operation.stand_after r.problem r.plan (item_at r.problem n)) (omega arith) in
    let before : c.loop-stage.stage < operation.stand_after r.problem r.plan (item_at r.problem n) (slice_index c.args.progress.now.settled n) = omega (arith, c.loop-stage-test.true, stand) in
    lacks-operation r c.args.progress.now n c.loop-stage.stage (c.loop-stage.before + 1) c.args.what c.requires.is c.requires.exist before c.loop-stage.invariant.passed (sym c.had_needs_at.ensures ∙ c.if-not-had_needs_at.true) (omega (arith, c.loop-stage.invariant.before))

pub returns : goal.returns
returns c =
    let r = c.args.plan.now in
    let n = c.args.item in
    let stand : c.stand-stage-end.result ≡ operation.stand_after r.problem r.plan (item_at r.problem n) (slice_index c.args.progress.now.settled n) = c.stand-stage-end.ensures.value ∙ ap (operation.stand_after r.problem r.plan (item_at r.problem n)) (omega arith) in
    let end : c.loop-stage.stage ≡ operation.stand_after r.problem r.plan (item_at r.problem n) (slice_index c.args.progress.now.settled n) = omega (arith, c.loop-stage-test.false, c.loop-stage.auto.stage-end, stand) in
    all-had-there r c.args.progress.now n c.loop-stage.stage c.args.what c.requires.is c.requires.exist end c.loop-stage.invariant.passed
