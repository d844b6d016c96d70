use Rattle.std.proofs.Common.{◌≡◌, ◌<◌, ◌∙◌, length, sym, subst, arith}
use Rattle.dependency_graph.specs.StageCounts.{standing}
use Rattle.dependency_graph.proofs.StageCounts.{least-first, least-none, standing-none}
use Rattle.dependency_graph.proofs.stage_counts.StageCounts.least_from.Goals as goal

pub loop-stage-init : goal.loop-stage-init
loop-stage-init c = λ s lt. standing-none c.args.self.now.stages c.args.low s c.requires.none lt

pub returns-then-count-gt0 : goal.returns-then-count-gt0
returns-then-count-gt0 c =
    let s = c.args.self.now in
    let below : c.loop-stage.stage < s.last = omega (arith, c.loop-stage-test.true, c.last-stage-end.ensures.last) in
    let some : 0 < standing s.stages (length s.stages) c.loop-stage.stage = omega (arith, c.count.ensures, c.if-count-gt0.true) in
    sym (least-first s.last s.stages c.loop-stage.stage below c.loop-stage.invariant some)

pub returns : goal.returns
returns c =
    let s = c.args.self.now in
    let all : c.loop-stage.stage ≡ s.last = omega (arith, c.loop-stage-test.false, c.loop-stage.auto.stage-end, c.last-stage-end.ensures.last, c.requires.low) in
    c.last.ensures.last
    ∙ sym (least-none s.last s.stages c.last.ensures.within (λ k lt. c.loop-stage.invariant k (subst (λ m. k < m) (sym all) lt)))
