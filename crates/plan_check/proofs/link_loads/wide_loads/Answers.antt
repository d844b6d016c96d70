use Rattle.std.proofs.Common.{◌≡◌, length, slice_index, arith}
use Rattle.plan_check.proofs.LinkSums.{loads-from_sums, loads-small}
use Rattle.plan_check.proofs.link_loads.wide_loads.Goals as goal

pub returns-clause-sums : goal.returns-clause-sums
returns-clause-sums c =
    let all : c.loop-t.t ≡ length c.args.problem.now.tunnels = grind arith in
    loads-from_sums c.args.problem.now (slice_index c.args.rates.now) c.loop-t.sums.items c.loop-t.t all c.loop-t.invariant

pub returns-clause-small : goal.returns-clause-small
returns-clause-small c =
    let all : c.loop-t.t ≡ length c.args.problem.now.tunnels = grind arith in
    loads-small c.args.problem.now (slice_index c.args.rates.now) c.loop-t.sums.items c.loop-t.t all c.loop-t.invariant c.links.ensures.network (λ t lt. c.requires.within t (omega (arith, c.requires.count)))
