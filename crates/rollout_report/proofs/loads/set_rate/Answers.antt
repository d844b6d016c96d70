use Rattle.std.proofs.Common.{arith}
use Rattle.rollout_report.proofs.Adding.{holds, stays_small, steps, ends}
use Rattle.rollout_report.proofs.loads.set_rate.Goals as goal

pub overflow_sub-sums : goal.overflow_sub-sums
overflow_sub-sums c =
    omega (arith, c.from.ensures, holds c.args.plan.now.problem c.links_of-links.ensures.network c.args.rates.now c.args.tunnel c.requires.tunnel c.args.rate c.links_of-links.result.now c.links_of-links.ensures.list c.loop-link.sums c.loop-link.link-index c.loop-link-test.true c.loop-link.invariant)

pub overflow_add-sums : goal.overflow_add-sums
overflow_add-sums c =
    omega (arith, c.from-in-loop-link.ensures, stays_small c.args.plan.now.problem c.links_of-links.ensures.network c.args.rates.now c.args.tunnel c.requires.tunnel c.args.rate c.links_of-links.result.now c.links_of-links.ensures.list c.loop-link.sums c.loop-link.link-index (λ u. omega (arith, c.type_inv.rates u)) c.loop-link-test.true c.loop-link.invariant)

pub loop-link-preserved : goal.loop-link-preserved
loop-link-preserved c =
    let next = steps c.args.plan.now.problem c.links_of-links.ensures.network c.args.rates.now c.args.tunnel c.requires.tunnel c.args.rate c.links_of-links.result.now c.links_of-links.ensures.list c.loop-link.sums c.loop-link.link-index c.loop-link-test.true c.loop-link.invariant in
    rw (c.from.ensures, c.from-in-loop-link.ensures) next

pub returns-clause-sums : goal.returns-clause-sums
returns-clause-sums c =
    ends c.args.plan.now.problem c.links_of-links.ensures.network c.args.rates.now c.args.tunnel c.requires.tunnel c.args.rate c.links_of-links.result.now c.links_of-links.ensures.list c.loop-link.sums c.loop-link.link-index c.requires.sums.tunnels (omega (arith, c.loop-link-test.false, c.loop-link.auto.link-index-end)) c.loop-link.invariant
