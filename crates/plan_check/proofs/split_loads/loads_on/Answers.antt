use Rattle.std.proofs.Common.{◌≡◌, ◌∙◌, length, arith}
use Rattle.std.proofs.lemmas.Result.{IfOk-weaker}
use Rattle.plan_check.proofs.LinkSums.{split-length, split-within, split-loads}
use Rattle.plan_check.proofs.split_loads.loads_on.Goals as goal

pub loads-requires-clause-count : goal.loads-requires-clause-count
loads-requires-clause-count c =
    let all : c.loop-t.t ≡ length c.args.problem.now.tunnels = grind arith in
    split-length c.args.side c.args.problem.now c.as_slice.result.now c.loop-t.t all (c.as_slice.ensures ∙ c.loop-t.invariant)

pub loads-requires-clause-within : goal.loads-requires-clause-within
loads-requires-clause-within c =
    let all : c.loop-t.t ≡ length c.args.problem.now.tunnels = grind arith in
    split-within c.args.side c.args.problem.now c.as_slice.result.now c.loop-t.t all (c.as_slice.ensures ∙ c.loop-t.invariant) c.tunnels-t-end.ensures.network

pub returns : goal.returns
returns c =
    let all : c.loop-t.t ≡ length c.args.problem.now.tunnels = grind arith in
    let sums = split-loads c.args.side c.args.problem.now c.as_slice.result.now c.loop-t.t all (c.as_slice.ensures ∙ c.loop-t.invariant) in
    IfOk-weaker c.loads.result _ _ sums c.loads.ensures
