use Rattle.std.proofs.Common.{◌≡◌, length, ap, arith}
use Rattle.retarget_plan.specs.Left.{with_capacities}
use Rattle.wan_model.proofs.Copied.{first-flow, last-flow}
use Rattle.retarget_plan.proofs.Copied.{copied-all, sized-network, sized-rates}
use Rattle.retarget_plan.proofs.copying.remake.Goals as goal

pub loop-flow-init : goal.loop-flow-init
loop-flow-init c =
    let p = c.args.problem.now in
    let cs = c.args.capacities.now in
    let net = c.flows-flow-end.ensures.network in
    first-flow (with_capacities p cs) c.args.old.now c.args.new.now (sized-network p cs net c.requires.capacities) (sized-rates p cs net c.requires.capacities c.args.old.now c.requires.old)
    (sized-rates p cs net c.requires.capacities c.args.new.now c.requires.new) _ (copied-all p cs _ c.in_ok-copy_links.ensures)

pub returns : goal.returns
returns c =
    let p = c.args.problem.now in
    let cs = c.args.capacities.now in
    let net = c.flows-flow-end.ensures.network in
    let all : c.loop-flow.flow ≡ length p.flows = omega (arith, ap length c.flows-flow-end.ensures.list) in
    last-flow (with_capacities p cs) c.args.old.now c.args.new.now (sized-network p cs net c.requires.capacities) (sized-rates p cs net c.requires.capacities c.args.old.now c.requires.old)
    (sized-rates p cs net c.requires.capacities c.args.new.now c.requires.new) c.loop-flow.copy c.loop-flow.flow all c.loop-flow.invariant
