use Rattle.std.proofs.Common.{◌≡◌, length, ap, ◌∙◌, arith}
use Rattle.rollout_rules.specs.History.{Places, places_of}
use Rattle.rollout_rules.specs.Safe.{settled_rate}
use Rattle.retarget_plan.specs.Units.{divisor_below}
use Rattle.retarget_plan.proofs.Divisors.{divisor-next, divisor-some}
use Rattle.retarget_plan.proofs.units.divisor_of.Goals as goal

pub loop-tunnel-init : goal.loop-tunnel-init
loop-tunnel-init c = c.from-divisor.ensures ∙ c.scale_of.ensures.value

pub common-divisor-requires : goal.common-divisor-requires
common-divisor-requires c =
    let r = c.args.plan.now in
    let at : Places = places_of r.problem c.args.graph.now.history in
    divisor-some c.loop-tunnel.tunnel r.plan.scale (settled_rate r.problem r.plan at) c.loop-tunnel.divisor (omega (arith, c.scale_of.ensures.value, c.scale_of.ensures.some)) c.loop-tunnel.invariant

pub loop-tunnel-preserved : goal.loop-tunnel-preserved
loop-tunnel-preserved c =
    let r = c.args.plan.now in
    let at : Places = places_of r.problem c.args.graph.now.history in
    divisor-next c.loop-tunnel.tunnel r.plan.scale (settled_rate r.problem r.plan at) c.settled_rate-rate.result c.loop-tunnel.divisor c.common-divisor.result c.loop-tunnel.invariant c.settled_rate-rate.ensures c.common-divisor.ensures

pub returns-clause-value : goal.returns-clause-value
returns-clause-value c =
    let r = c.args.plan.now in
    let at : Places = places_of r.problem c.args.graph.now.history in
    let all : c.loop-tunnel.tunnel ≡ length r.problem.tunnels = omega (arith, c.tunnel_total-tunnel-end.ensures.value) in
    c.loop-tunnel.invariant ∙ ap (λ n. divisor_below n r.plan.scale (settled_rate r.problem r.plan at)) all

pub returns-clause-some : goal.returns-clause-some
returns-clause-some c =
    let r = c.args.plan.now in
    let at : Places = places_of r.problem c.args.graph.now.history in
    divisor-some c.loop-tunnel.tunnel r.plan.scale (settled_rate r.problem r.plan at) c.loop-tunnel.divisor (omega (arith, c.scale_of.ensures.value, c.scale_of.ensures.some)) c.loop-tunnel.invariant
