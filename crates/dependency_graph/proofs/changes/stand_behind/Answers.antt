use Rattle.std.proofs.Common.{◌≡◌, ◌<◌, ◌∙◌, sym, arith}
use Rattle.rollout_rules.specs.Wan.{last_stage}
use Rattle.dependency_graph.proofs.Strides.{changes-behind, changes-still, stands-there, stands-last}
use Rattle.dependency_graph.proofs.changes.stand_behind.Goals as goal

pub loop-s-init : goal.loop-s-init
loop-s-init c = λ j is. changes-behind c.args.plan.now.problem c.args.plan.now.plan c.args.item c.args.from j c.min-first.result is (omega (arith, c.min-first.ensures))

pub loop-s-preserved : goal.loop-s-preserved
loop-s-preserved c = λ j is. changes-still c.args.plan.now.problem c.args.plan.now.plan c.args.item c.loop-s.s j (sym c.changes_behind.ensures ∙ c.if-changes_behind.false) (c.loop-s.invariant j is)

pub returns-then-changes_behind : goal.returns-then-changes_behind
returns-then-changes_behind c = λ j is.
    let plan = c.args.plan.now.plan in
    let before : c.loop-s.s < last_stage plan = omega (arith, c.loop-s-test.true, c.last_stage-last.ensures.value) in
    let past : c.args.from < c.loop-s.s = omega (arith, c.loop-s.auto.s, c.min-first.ensures, c.loop-s-test.true) in
    stands-there c.args.plan.now.problem plan c.args.item c.args.from j c.loop-s.s is past before (sym c.changes_behind.ensures ∙ c.if-changes_behind.true) (c.loop-s.invariant j is)

pub returns : goal.returns
returns c = λ j is.
    let plan = c.args.plan.now.plan in
    let all : c.loop-s.s ≡ c.last_stage-last.result = omega (arith, c.loop-s-test.false, c.loop-s.auto.s-end) in
    sym all ∙ stands-last c.args.plan.now.problem plan c.args.item j c.loop-s.s (all ∙ c.last_stage-last.ensures.value) (c.loop-s.invariant j is)
