use Rattle.std.proofs.Common.{◌<◌, ◌∙◌, sym, ap, arith}
use Rattle.rollout_rules.specs.Wan.{flow_at, tunnel_of}
use Rattle.rollout_rules.proofs.Below.{all_below_stops}
use Rattle.dependency_graph.specs.Fits.{carrier_stands}
use Rattle.dependency_graph.specs.Ahead.{places_with}
use Rattle.dependency_graph.proofs.progress.needs.carriers_stand.Goals as goal

pub returns-then-not-carrier_stands : goal.returns-then-not-carrier_stands
returns-then-not-carrier_stands c =
    let p = c.args.plan.now.problem in
    let plan = c.args.plan.now.plan in
    let inside : c.loop-j.j < (flow_at p c.args.f).tunnels = omega (arith, c.tunnel_count-j-end.ensures.value) in
    let fails = ap (λ t. carrier_stands p plan (places_with c.args.plan.now c.args.progress.now c.args.ahead.now) t c.args.s) (sym c.tunnel_of.ensures.value) ∙ sym c.carrier_stands.ensures ∙ c.if-not-carrier_stands.true in
    sym (all_below_stops (λ k. carrier_stands p plan (places_with c.args.plan.now c.args.progress.now c.args.ahead.now) (tunnel_of p c.args.f k) c.args.s) ((flow_at p c.args.f).tunnels) c.loop-j.j inside fails)
