use Rattle.std.proofs.Common.{◌≡◌, ◌<◌, length, sym, ap, ◌∙◌, subst, arith}
use Rattle.rollout_rules.specs.History.{Places, places_of}
use Rattle.rollout_rules.specs.Items.{number_of}
use Rattle.rollout_rules.specs.Wan.{Rollout}
use Rattle.rollout_rules.specs.declared.item.Item.TheVariants as item
use Rattle.plan_check.proofs.Firsts.{first_below_stops}
use Rattle.retarget_plan.specs.Leaving.{partly_at}
use Rattle.retarget_plan.proofs.Found.{none-all, none-next, none-where, some-where_not}
use Rattle.retarget_plan.proofs.leaving.first_partly.Goals as goal

pub first_entry-first-requires : goal.first_entry-first-requires
first_entry-first-requires c =
    let lt : c.loop-tunnel.tunnel < length c.args.plan.now.problem.tunnels = omega (arith, c.tunnel_total-tunnel-end.ensures.value) in
    subst (λ (r : Rollout). c.loop-tunnel.tunnel < length r.problem.tunnels) (sym c.requires.index) lt

pub is_whole-requires-clause-first : goal.is_whole-requires-clause-first
is_whole-requires-clause-first c = c.first_entry-first.ensures ∙ ap (λ (r : Rollout). number_of r.problem (item.Entry c.loop-tunnel.tunnel 0)) c.requires.index

pub returns-then-not-is_whole : goal.returns-then-not-is_whole
returns-then-not-is_whole c =
    let r = c.args.plan.now in
    let at : Places = places_of r.problem c.args.graph.now.history in
    let inside : c.loop-tunnel.tunnel < length r.problem.tunnels = omega (arith, c.tunnel_total-tunnel-end.ensures.value) in
    sym (first_below_stops (partly_at r.problem r.plan at) (length r.problem.tunnels) c.loop-tunnel.tunnel _ inside c.loop-tunnel.invariant (sym (some-where_not _ _ (sym c.is_whole.ensures ∙ c.if-not-is_whole.true))))

pub loop-tunnel-preserved : goal.loop-tunnel-preserved
loop-tunnel-preserved c =
    let r = c.args.plan.now in
    let at : Places = places_of r.problem c.args.graph.now.history in
    none-next (partly_at r.problem r.plan at) c.loop-tunnel.tunnel c.loop-tunnel.invariant (sym (none-where _ _ (sym c.is_whole.ensures ∙ c.if-not-is_whole.false)))

pub returns : goal.returns
returns c =
    let r = c.args.plan.now in
    let at : Places = places_of r.problem c.args.graph.now.history in
    let all : c.loop-tunnel.tunnel ≡ length r.problem.tunnels = omega (arith, c.tunnel_total-tunnel-end.ensures.value) in
    none-all (partly_at r.problem r.plan at) c.loop-tunnel.tunnel (length r.problem.tunnels) all c.loop-tunnel.invariant
