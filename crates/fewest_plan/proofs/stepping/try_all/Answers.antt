use Rattle.std.proofs.Common.{◌≡◌, length, subst, sym, ap, ◌∙◌, arith}
use Rattle.std.specs.Prelude.{slice_index_or}
use Rattle.fewest_plan.specs.Growth.{AreGains}
use Rattle.fewest_plan.specs.Greedy.{AreShares}
use Rattle.fewest_plan.proofs.Gaining.{gains_of-are, all_gains-count, links-are}
use Rattle.fewest_plan.proofs.Trying.{none-tried, all-tried, share-most, sums-count, sums-small, next-tried, step-are}
use Rattle.fewest_plan.proofs.stepping.try_all.Goals as goal

pub loop-i-init : goal.loop-i-init
loop-i-init c = none-tried c.args.problem.now c.args.scale c.args.order.now c.args.shares.now c.args.tops.now c.requires.tops

pub bounds-gains-f : goal.bounds-gains-f
bounds-gains-f c = omega (arith, ap length c.requires.gains, all_gains-count c.args.problem.now, c.requires.order c.loop-i.i c.loop-i-test.true)

pub move_flow-requires-clause-share : goal.move_flow-requires-clause-share
move_flow-requires-clause-share c =
    share-most c.args.problem.now c.args.scale c.args.order.now c.args.shares.now c.loop-i.i c.loop-i.tops c.loop-i.shares c.requires.network c.requires.scale c.requires.order c.requires.shares c.loop-i-test.true c.loop-i.invariant

pub move_flow-requires-clause-gains : goal.move_flow-requires-clause-gains
move_flow-requires-clause-gains c =
    subst (λ gs. AreGains c.args.problem.now gs) (sym (c.as_slice.ensures ∙ links-are c.args.problem.now c.args.gains.now (slice_index_or c.args.order.now c.loop-i.i 0) c.index-gains-f.result c.requires.gains (c.requires.order c.loop-i.i c.loop-i-test.true) c.index-gains-f.is))
    (gains_of-are c.args.problem.now (slice_index_or c.args.order.now c.loop-i.i 0))

pub move_flow-requires-clause-count : goal.move_flow-requires-clause-count
move_flow-requires-clause-count c =
    sums-count c.args.problem.now c.args.scale c.args.order.now c.args.shares.now c.loop-i.i c.loop-i.tops c.loop-i.shares c.requires.network c.requires.scale c.requires.order c.requires.shares c.loop-i-test.true c.loop-i.invariant

pub move_flow-requires-clause-small : goal.move_flow-requires-clause-small
move_flow-requires-clause-small c =
    sums-small c.args.problem.now c.args.scale c.args.order.now c.args.shares.now c.loop-i.i c.loop-i.tops c.loop-i.shares c.requires.network c.requires.scale c.requires.order c.requires.shares c.loop-i-test.true c.loop-i.invariant

pub loop-i-preserved : goal.loop-i-preserved
loop-i-preserved c =
    next-tried c.args.problem.now c.args.scale c.args.order.now c.args.shares.now c.loop-i.i c.loop-i.tops c.loop-i.shares c.requires.network c.requires.scale c.requires.order c.requires.shares c.loop-i-test.true c.loop-i.invariant c.as_slice.result.now c.move_flow.new.tops c.move_flow.new.shares _
    (c.as_slice.ensures ∙ links-are c.args.problem.now c.args.gains.now (slice_index_or c.args.order.now c.loop-i.i 0) c.index-gains-f.result c.requires.gains (c.requires.order c.loop-i.i c.loop-i-test.true) c.index-gains-f.is)
    c.move_flow.ensures.shares c.move_flow.ensures.tops

pub returns-clause-value : goal.returns-clause-value
returns-clause-value c =
    let all : c.loop-i.i ≡ length c.args.order.now = omega (arith, c.loop-i-test.false, c.loop-i.auto.i-end) in
    all-tried c.args.problem.now c.args.scale c.args.order.now c.args.shares.now c.loop-i.i c.loop-i.tops c.loop-i.shares all c.loop-i.invariant

pub returns-clause-shares : goal.returns-clause-shares
returns-clause-shares c =
    let all : c.loop-i.i ≡ length c.args.order.now = omega (arith, c.loop-i-test.false, c.loop-i.auto.i-end) in
    subst (λ xs. AreShares c.args.problem.now c.args.scale xs)
    (sym (all-tried c.args.problem.now c.args.scale c.args.order.now c.args.shares.now c.loop-i.i c.loop-i.tops c.loop-i.shares all c.loop-i.invariant))
    (step-are c.args.problem.now c.args.scale c.args.order.now c.args.shares.now c.requires.shares c.requires.order)
