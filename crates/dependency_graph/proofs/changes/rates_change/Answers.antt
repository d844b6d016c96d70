use Rattle.std.proofs.Common.{◌≡◌, ◌<◌, ◌+◌, ◌∙◌, true, not, sym, ap, ap₂, subst, arith, ne_eqb, ◌==◌}
use Rattle.rollout_rules.specs.Sums.{all_below}
use Rattle.rollout_rules.specs.Wan.{rate_at, tunnel_of, flow_at}
use Rattle.rollout_rules.proofs.Below.{all_below_stops}
use Rattle.dependency_graph.proofs.Contents.{same-below}
use Rattle.dependency_graph.proofs.changes.rates_change.Goals as goal

pub returns-then-rate : goal.returns-then-rate
returns-then-rate c =
    let p = c.args.plan.now.problem in
    let plan = c.args.plan.now.plan in
    let inside : c.loop-j.j < (flow_at p c.args.f).tunnels = grind arith in
    let next : c.next_stage-next.result ≡ c.args.s + 1 = omega (arith, c.next_stage-next.ensures.value) in
    let fails = ne_eqb (rate_at plan c.args.s (tunnel_of p c.args.f c.loop-j.j)) (rate_at plan (c.args.s + 1) (tunnel_of p c.args.f c.loop-j.j))
    (λ q. c.if-rate.true (c.rate.ensures ∙ ap (rate_at plan c.args.s) c.tunnel_of-t.ensures.value ∙ q ∙ sym (c.rate-in-loop-j.ensures ∙ ap₂ (rate_at plan) next c.tunnel_of-t.ensures.value))) in
    let stops = all_below_stops (λ j. rate_at plan c.args.s (tunnel_of p c.args.f j) == rate_at plan (c.args.s + 1) (tunnel_of p c.args.f j)) (flow_at p c.args.f).tunnels c.loop-j.j inside fails in
    sym (ap not (same-below (flow_at p c.args.f).tunnels (λ j. rate_at plan c.args.s (tunnel_of p c.args.f j)) (λ j. rate_at plan (c.args.s + 1) (tunnel_of p c.args.f j)) ∙ stops))

pub returns : goal.returns
returns c =
    let p = c.args.plan.now.problem in
    let plan = c.args.plan.now.plan in
    let end : c.loop-j.j ≡ (flow_at p c.args.f).tunnels = omega (arith, c.tunnel_count-j-end.ensures.value) in
    let passes = subst (λ n. all_below n (λ j. rate_at plan c.args.s (tunnel_of p c.args.f j) == rate_at plan (c.args.s + 1) (tunnel_of p c.args.f j)) ≡ true) end c.loop-j.invariant in
    sym (ap not (same-below (flow_at p c.args.f).tunnels (λ j. rate_at plan c.args.s (tunnel_of p c.args.f j)) (λ j. rate_at plan (c.args.s + 1) (tunnel_of p c.args.f j)) ∙ passes))
