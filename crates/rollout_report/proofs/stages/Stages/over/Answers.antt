use Rattle.std.proofs.Common.{◌≡◌, ap, subst, arith}
use Rattle.rollout_rules.specs.Items.{item_count}
use Rattle.rollout_report.proofs.Looking.{row-there}
use Rattle.rollout_report.specs.Tallies.{AreStageCounts}
use Rattle.rollout_report.proofs.Tallying.{all-most, settled-most}
use Rattle.rollout_report.proofs.stages.Stages.over.Goals as goal

pub count-requires-clause-item : goal.count-requires-clause-item
count-requires-clause-item c =
    row-there c.args.plan.now c.args.items.now c.requires.items c.loop-number.number _
    (omega (arith, c.loop-number-test.true, c.item_count-number-end.ensures, ap item_count c.problem.ensures))

pub count-requires-clause-all : goal.count-requires-clause-all
count-requires-clause-all c = λ s. omega (arith, all-most _ _ _ _ _ c.loop-number.invariant s)

pub count-requires-clause-settled : goal.count-requires-clause-settled
count-requires-clause-settled c = λ s. omega (arith, settled-most _ _ _ _ _ c.loop-number.invariant s)

pub returns : goal.returns
returns c =
    let p = c.args.plan.now.problem in
    let end : c.loop-number.number ≡ item_count p = omega (arith, c.loop-number-test.false, c.loop-number.auto.number-end, c.item_count-number-end.ensures, ap item_count c.problem.ensures) in
    subst (λ n. AreStageCounts p c.args.plan.now.plan c.args.counts.now.settled n c.loop-number.stages) end c.loop-number.invariant
