use Rattle.std.proofs.Common.{◌≡◌, ◌<◌, ◌≤◌, ◌∙◌, length, ap, arith}
use Rattle.rollout_rules.specs.Building.{no_problem}
use Rattle.wan_model.proofs.Copied.{first-flow, last-flow}
use Rattle.wan_model.proofs.copying.with_rates.Goals as goal

pub copy_switches-requires : goal.copy_switches-requires
copy_switches-requires c = c.of_format-copy.ensures ∙ ap (λ f. record no_problem { format = f }) c.format.ensures.value

pub loop-flow-init : goal.loop-flow-init
loop-flow-init c =
    first-flow c.args.problem.now c.args.old.now c.args.new.now c.flows-flow-end.ensures.network c.requires.old c.requires.new _ c.in_ok-copy_links.ensures

pub returns : goal.returns
returns c =
    let all : c.loop-flow.flow ≡ length c.args.problem.now.flows = omega (arith, ap length c.flows-flow-end.ensures.list) in
    last-flow c.args.problem.now c.args.old.now c.args.new.now c.flows-flow-end.ensures.network c.requires.old c.requires.new c.loop-flow.copy c.loop-flow.flow all c.loop-flow.invariant
