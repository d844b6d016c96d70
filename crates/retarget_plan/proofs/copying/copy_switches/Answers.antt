use Rattle.std.proofs.Common.{◌≡◌, ◌<◌, ◌∙◌, length, ap, arith}
use Rattle.wan_model.specs.Fronts.{switched}
use Rattle.wan_model.proofs.Copied.{switch-may, switch-next}
use Rattle.wan_model.proofs.Fronts.{switches_end}
use Rattle.retarget_plan.specs.Left.{with_capacities}
use Rattle.retarget_plan.proofs.Copied.{sized-network}
use Rattle.retarget_plan.proofs.copying.copy_switches.Goals as goal

pub add_switch-requires : goal.add_switch-requires
add_switch-requires c =
    let p = c.args.problem.now in
    let lt : c.loop-switch.switch < length p.switches = omega (arith, ap length c.switches-switch-end.ensures.list) in
    switch-may p c.switches-switch-end.ensures.network _ c.loop-switch.switch _ _ lt c.loop-switch.invariant c.switch_name.ensures c.table.ensures

pub loop-switch-preserved : goal.loop-switch-preserved
loop-switch-preserved c =
    let p = c.args.problem.now in
    let lt : c.loop-switch.switch < length p.switches = omega (arith, ap length c.switches-switch-end.ensures.list) in
    switch-next p c.switches-switch-end.ensures.network _ _ c.loop-switch.switch _ _ lt c.loop-switch.invariant c.switch_name.ensures c.table.ensures c.in_ok-add_switch.ensures.ok

pub returns : goal.returns
returns c =
    let p = c.args.problem.now in
    let q = with_capacities p c.args.capacities.now in
    let all : c.loop-switch.switch ≡ length p.switches = omega (arith, ap length c.switches-switch-end.ensures.list) in
    c.loop-switch.invariant ∙ ap (switched q) all ∙ switches_end q (sized-network p c.args.capacities.now c.switches-switch-end.ensures.network c.requires.capacities)
