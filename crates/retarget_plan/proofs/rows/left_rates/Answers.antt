use Rattle.std.proofs.Common.{◌≡◌, ◌<◌, ◌∙◌, length, sym, ap, subst, arith}
use Rattle.rollout_rules.specs.Items.{number_of}
use Rattle.rollout_rules.specs.Wan.{Rollout}
use Rattle.rollout_rules.specs.declared.item.Item.TheVariants as item
use Rattle.rollout_rules.specs.History.{places_of}
use Rattle.retarget_plan.specs.Left.{left_rate}
use Rattle.retarget_plan.proofs.Found.{list-all, list-next}
use Rattle.retarget_plan.proofs.rows.left_rates.Goals as goal

pub loop-tunnel-preserved : goal.loop-tunnel-preserved
loop-tunnel-preserved c = list-next (left_rate c.args.plan.now.problem c.args.plan.now.plan (places_of c.args.plan.now.problem c.args.graph.now.history)) c.loop-tunnel.tunnel c.loop-tunnel.rates _ c.left_rate-rate.result c.loop-tunnel.invariant c.left_rate-rate.ensures c.in_ok-push.ensures.ok

pub returns : goal.returns
returns c =
    let all : c.loop-tunnel.tunnel ≡ length c.args.plan.now.problem.tunnels = omega (arith, c.tunnel_total-tunnel-end.ensures.value) in
    list-all (left_rate c.args.plan.now.problem c.args.plan.now.plan (places_of c.args.plan.now.problem c.args.graph.now.history)) c.loop-tunnel.tunnel (length c.args.plan.now.problem.tunnels) c.loop-tunnel.rates all c.loop-tunnel.invariant

pub first_entry-first-requires : goal.first_entry-first-requires
first_entry-first-requires c =
    let lt : c.loop-tunnel.tunnel < length c.args.plan.now.problem.tunnels = omega (arith, c.tunnel_total-tunnel-end.ensures.value) in
    subst (λ (r : Rollout). c.loop-tunnel.tunnel < length r.problem.tunnels) (sym c.requires.index) lt

pub left_rate-rate-requires-clause-first : goal.left_rate-rate-requires-clause-first
left_rate-rate-requires-clause-first c = c.first_entry-first.ensures ∙ ap (λ (r : Rollout). number_of r.problem (item.Entry c.loop-tunnel.tunnel 0)) c.requires.index
