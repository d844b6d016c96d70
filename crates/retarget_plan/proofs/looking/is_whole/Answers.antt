use Rattle.std.proofs.Common.{◌≡◌, ◌<◌, sym, ◌∙◌, arith}
use Rattle.rollout_rules.specs.History.{Places, places_of}
use Rattle.rollout_rules.specs.Wan.{hops}
use Rattle.rollout_rules.proofs.Below.{all_below_stops}
use Rattle.wan_model.proofs.Counted.{first-few}
use Rattle.retarget_plan.proofs.Looked.{all-met, all-next, as_first, entry-counted, entry-same, first-counted}
use Rattle.retarget_plan.proofs.looking.is_whole.Goals as goal

pub is_there-there-requires-clause-number : goal.is_there-there-requires-clause-number
is_there-there-requires-clause-number c =
    let p = c.args.plan.now.problem in
    first-counted p c.args.tunnel c.args.first c.requires.tunnel c.requires.first (omega (arith, (c.checked_plan_is_valid.ensures.network.tunnels c.args.tunnel c.requires.tunnel).path.least))

pub overflow_add-number : goal.overflow_add-number
overflow_add-number c =
    let p = c.args.plan.now.problem in
    let net = c.checked_plan_is_valid.ensures.network in
    let lt : c.loop-hop.hop < hops p c.args.tunnel = omega (arith, c.hops-hop-end.ensures.value) in
    omega (arith, lt, c.requires.first, first-few p c.args.tunnel net (omega (arith, c.requires.tunnel)), (net.tunnels c.args.tunnel c.requires.tunnel).path.most)

pub is_there-here-requires-clause-number : goal.is_there-here-requires-clause-number
is_there-here-requires-clause-number c =
    let p = c.args.plan.now.problem in
    let lt : c.loop-hop.hop < hops p c.args.tunnel = omega (arith, c.hops-hop-end.ensures.value) in
    entry-counted p c.args.tunnel c.args.first c.requires.tunnel c.requires.first c.loop-hop.hop lt

pub returns-then-not-is_same : goal.returns-then-not-is_same
returns-then-not-is_same c =
    let r = c.args.plan.now in
    let at : Places = places_of r.problem c.args.graph.now.history in
    let hop = c.loop-hop.hop in
    let lt : hop < hops r.problem c.args.tunnel = omega (arith, c.hops-hop-end.ensures.value) in
    let this = entry-same r.problem c.args.tunnel c.args.first c.requires.tunnel c.requires.first r.plan at hop c.is_same.result c.is_there-here.result c.is_there-there.result lt c.is_same.ensures c.is_there-here.ensures c.is_there-there.ensures in
    sym (all_below_stops (as_first r.problem r.plan at c.args.tunnel) (hops r.problem c.args.tunnel) hop lt (sym this ∙ c.if-not-is_same.true))

pub loop-hop-preserved : goal.loop-hop-preserved
loop-hop-preserved c =
    let r = c.args.plan.now in
    let at : Places = places_of r.problem c.args.graph.now.history in
    let hop = c.loop-hop.hop in
    let lt : hop < hops r.problem c.args.tunnel = omega (arith, c.hops-hop-end.ensures.value) in
    let this = entry-same r.problem c.args.tunnel c.args.first c.requires.tunnel c.requires.first r.plan at hop c.is_same.result c.is_there-here.result c.is_there-there.result lt c.is_same.ensures c.is_there-here.ensures c.is_there-there.ensures in
    all-next (as_first r.problem r.plan at c.args.tunnel) hop c.is_same.result c.loop-hop.invariant this c.if-not-is_same.false

pub returns : goal.returns
returns c =
    let r = c.args.plan.now in
    let at : Places = places_of r.problem c.args.graph.now.history in
    let all : c.loop-hop.hop ≡ hops r.problem c.args.tunnel = omega (arith, c.hops-hop-end.ensures.value) in
    all-met (as_first r.problem r.plan at c.args.tunnel) c.loop-hop.hop (hops r.problem c.args.tunnel) all c.loop-hop.invariant
