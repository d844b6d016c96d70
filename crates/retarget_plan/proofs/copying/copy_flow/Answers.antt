use Rattle.std.proofs.Common.{◌≡◌, ◌<◌, refl, arith}
use Rattle.rollout_rules.specs.Wan.{flow_at}
use Rattle.wan_model.proofs.Copied.{flow-may, flow-first, flow-last, tunnel-may, tunnel-next}
use Rattle.retarget_plan.specs.Left.{with_capacities}
use Rattle.retarget_plan.proofs.Copied.{sized-network, sized-rates}
use Rattle.retarget_plan.proofs.copying.copy_flow.Goals as goal

pub add_flow-requires : goal.add_flow-requires
add_flow-requires c =
    let p = c.args.problem.now in
    let cs = c.args.capacities.now in
    let net = sized-network p cs c.requires.network c.requires.capacities in
    let old = sized-rates p cs c.requires.network c.requires.capacities c.args.old.now c.requires.old in
    let new = sized-rates p cs c.requires.network c.requires.capacities c.args.new.now c.requires.new in
    flow-may (with_capacities p cs) c.args.old.now c.args.new.now net old new c.args.flow c.requires.flow _ _ c.requires.before c.flow_name.ensures

pub loop-j-init : goal.loop-j-init
loop-j-init c =
    let p = c.args.problem.now in
    let cs = c.args.capacities.now in
    let net = sized-network p cs c.requires.network c.requires.capacities in
    let old = sized-rates p cs c.requires.network c.requires.capacities c.args.old.now c.requires.old in
    let new = sized-rates p cs c.requires.network c.requires.capacities c.args.new.now c.requires.new in
    flow-first (with_capacities p cs) c.args.old.now c.args.new.now net old new c.args.flow c.requires.flow _ _ _ c.requires.before c.flow_name.ensures c.in_ok-add_flow.ensures.ok

pub add_tunnel-requires : goal.add_tunnel-requires
add_tunnel-requires c =
    let p = c.args.problem.now in
    let cs = c.args.capacities.now in
    let net = sized-network p cs c.requires.network c.requires.capacities in
    let old = sized-rates p cs c.requires.network c.requires.capacities c.args.old.now c.requires.old in
    let new = sized-rates p cs c.requires.network c.requires.capacities c.args.new.now c.requires.new in
    let few : c.loop-j.j < (flow_at p c.args.flow).tunnels = omega (arith, c.tunnel_count-j-end.ensures.value) in
    tunnel-may (with_capacities p cs) c.args.old.now c.args.new.now net old new c.args.flow c.requires.flow c.loop-j.j c.tunnel_of-t.result few c.tunnel_of-t.ensures.value c.tunnel_of-t.ensures.inside
    _ _ _ _ _ c.loop-j.invariant c.path.ensures.list refl refl c.width.ensures.value

pub loop-j-preserved : goal.loop-j-preserved
loop-j-preserved c =
    let p = c.args.problem.now in
    let cs = c.args.capacities.now in
    let net = sized-network p cs c.requires.network c.requires.capacities in
    let old = sized-rates p cs c.requires.network c.requires.capacities c.args.old.now c.requires.old in
    let new = sized-rates p cs c.requires.network c.requires.capacities c.args.new.now c.requires.new in
    let few : c.loop-j.j < (flow_at p c.args.flow).tunnels = omega (arith, c.tunnel_count-j-end.ensures.value) in
    tunnel-next (with_capacities p cs) c.args.old.now c.args.new.now net old new c.args.flow c.requires.flow c.loop-j.j c.tunnel_of-t.result few c.tunnel_of-t.ensures.value c.tunnel_of-t.ensures.inside
    _ _ _ _ _ _ c.loop-j.invariant c.path.ensures.list refl refl c.width.ensures.value c.in_ok-add_tunnel.ensures.ok

pub returns : goal.returns
returns c =
    let p = c.args.problem.now in
    let cs = c.args.capacities.now in
    let net = sized-network p cs c.requires.network c.requires.capacities in
    let old = sized-rates p cs c.requires.network c.requires.capacities c.args.old.now c.requires.old in
    let new = sized-rates p cs c.requires.network c.requires.capacities c.args.new.now c.requires.new in
    let all : c.loop-j.j ≡ (flow_at p c.args.flow).tunnels = omega (arith, c.tunnel_count-j-end.ensures.value) in
    flow-last (with_capacities p cs) c.args.old.now c.args.new.now net old new c.args.flow c.requires.flow c.loop-j.copy c.loop-j.j all c.loop-j.invariant
