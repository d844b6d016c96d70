use Rattle.std.proofs.Common.{◌≡◌, subst, arith}
use Rattle.rollout_rules.specs.Wan.{flow_at, tunnel_of}
use Rattle.rollout_report.specs.Loads.{larger_at}
use Rattle.rollout_report.proofs.Refreshing.{ArePartly, one_refreshed, all_refreshed}
use Rattle.rollout_report.proofs.loads.refresh.Goals as goal

pub loop-place-preserved : goal.loop-place-preserved
loop-place-preserved c =
    let p = c.args.plan.now.problem in
    let is : c.max-rate.result ≡ larger_at c.args.plan.now.plan c.args.here c.args.next (tunnel_of p c.args.flow c.loop-place.place) = cc in
    record {
      sums = c.set_rate.ensures.sums;
      rates = one_refreshed p c.args.plan.now.plan c.args.flow c.args.here c.args.next c.args.rates.now c.loop-place.place c.loop-place.rates c.max-rate.result (omega (arith, c.tunnel_of-tunnel.ensures.value, c.tunnel_of-tunnel.ensures.inside, c.requires.sums.tunnels)) c.loop-place.invariant.rates is c.set_rate.new.rates (cc) c.set_rate.auto.rates;
    }

pub returns-clause-rates : goal.returns-clause-rates
returns-clause-rates c =
    let p = c.args.plan.now.problem in
    let all : c.loop-place.place ≡ (flow_at p c.args.flow).tunnels = omega (arith, c.loop-place-test.false, c.tunnel_count-place-end.ensures, c.loop-place.auto.place-end) in
    all_refreshed p c.args.plan.now.plan c.args.flow c.args.here c.args.next c.args.rates.now c.checked_plan_is_valid.ensures.network c.requires.flow c.loop-place.rates
    (subst (λ j. ArePartly p c.args.plan.now.plan c.args.flow c.args.here c.args.next c.args.rates.now j c.loop-place.rates) all c.loop-place.invariant.rates)
