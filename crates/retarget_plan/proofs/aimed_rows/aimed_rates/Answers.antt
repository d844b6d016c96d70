use Rattle.std.proofs.Common.{◌≡◌, ◌<◌, ℕ, List, Option, None, length, ap, ap₂, ◌∙◌, arith}
use Rattle.rollout_rules.specs.History.{Places, places_of}
use Rattle.rollout_rules.proofs.Rows.{list_below-at}
use Rattle.wan_model.specs.Rates.{rate_in}
use Rattle.retarget_plan.specs.Aiming.{aimed_rate, rate_with}
use Rattle.retarget_plan.specs.Left.{left_rate}
use Rattle.retarget_plan.proofs.Found.{list-all, list-next}
use Rattle.retarget_plan.proofs.aimed_rows.aimed_rates.Goals as goal

pub loop-tunnel-preserved : goal.loop-tunnel-preserved
loop-tunnel-preserved c =
    let r = c.args.plan.now in
    let at : Places = places_of r.problem c.args.graph.now.history in
    let t = c.loop-tunnel.tunnel in
    let lt : t < length r.problem.tunnels = omega (arith, c.tunnel_total-tunnel-end.ensures.value) in
    let old : c.nth.result ≡ left_rate r.problem r.plan at t = c.nth.ensures ∙ ap (λ (xs : List (Option ℕ)). rate_in xs t) c.requires.old ∙ list_below-at (length r.problem.tunnels) (left_rate r.problem r.plan at) t None lt in
    list-next (aimed_rate r.problem r.plan at c.args.aim.now) t c.loop-tunnel.rates _ c.aimed_rate-rate.result c.loop-tunnel.invariant
    (c.aimed_rate-rate.ensures ∙ ap₂ (λ (f : ℕ) (o : Option ℕ). rate_with r.problem c.args.aim.now f o t) c.requires.factor old) c.in_ok-push.ensures.ok

pub returns : goal.returns
returns c =
    let r = c.args.plan.now in
    let at : Places = places_of r.problem c.args.graph.now.history in
    let all : c.loop-tunnel.tunnel ≡ length r.problem.tunnels = omega (arith, c.tunnel_total-tunnel-end.ensures.value) in
    list-all (aimed_rate r.problem r.plan at c.args.aim.now) c.loop-tunnel.tunnel (length r.problem.tunnels) c.loop-tunnel.rates all c.loop-tunnel.invariant
