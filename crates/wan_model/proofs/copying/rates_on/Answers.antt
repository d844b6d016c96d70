use Rattle.std.proofs.Common.{◌≡◌, ◌<◌, ◌≤◌, ◌∙◌, length, map, sym, ap, subst, arith}
use Rattle.wan_model.specs.Rates.{AreRates}
use Rattle.wan_model.specs.Sides.{rate_on}
use Rattle.wan_model.proofs.Copied.{rate-next, rates-all}
use Rattle.wan_model.proofs.Rated.{split-rates}
use Rattle.wan_model.proofs.copying.rates_on.Goals as goal

pub loop-tunnel-preserved : goal.loop-tunnel-preserved
loop-tunnel-preserved c =
    let p = c.args.problem.now in
    let lt : c.loop-tunnel.tunnel < length p.tunnels = omega (arith, ap length c.tunnels-tunnel-end.ensures.list) in
    rate-next p c.args.side c.loop-tunnel.rates _ c.loop-tunnel.tunnel _ lt c.loop-tunnel.invariant c.rate_on.ensures.value c.in_ok-push.ensures.ok

pub returns-clause-list : goal.returns-clause-list
returns-clause-list c =
    let p = c.args.problem.now in
    let all : length p.tunnels ≡ c.loop-tunnel.tunnel = omega (arith, ap length c.tunnels-tunnel-end.ensures.list) in
    rates-all p c.args.side c.loop-tunnel.rates c.loop-tunnel.tunnel all c.loop-tunnel.invariant

pub returns-clause-rates : goal.returns-clause-rates
returns-clause-rates c =
    let p = c.args.problem.now in
    let all : length p.tunnels ≡ c.loop-tunnel.tunnel = omega (arith, ap length c.tunnels-tunnel-end.ensures.list) in
    let are = rates-all p c.args.side c.loop-tunnel.rates c.loop-tunnel.tunnel all c.loop-tunnel.invariant in
    subst (AreRates p) (sym are) (split-rates p c.args.side c.tunnels-tunnel-end.ensures.network)
