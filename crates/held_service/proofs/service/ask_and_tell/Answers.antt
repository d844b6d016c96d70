use Rattle.std.proofs.Common.{refl, ap, ◌∙◌}
use Rattle.rollout_rules.specs.Items.{item_count}
use Rattle.rollout_rules.specs.Wan.{Rollout}
use Rattle.switch_ports.specs.Berths.{ports_of}
use Rattle.held_service.specs.Noting.{no_notes}
use Rattle.held_service.proofs.Visited.{wants-all, wants-with-port}
use Rattle.held_service.proofs.service.ask_and_tell.Goals as goal

pub returns-in_err-row-clause-asks : goal.returns-in_err-row-clause-asks
returns-in_err-row-clause-asks g c =
    let ports = ports_of (g.F.Fleet.told c.args.fleet.now) in
    wants-all g.F.Port.Port.told c.args.plan.now.problem c.args.plan.now.plan c.args.rounds ports ports c.from_residual.result refl c.from_residual.ensures.1

pub returns-in_err-row-clause-cause : goal.returns-in_err-row-clause-cause
returns-in_err-row-clause-cause g c = λ w is. absurd (wants-with-port w c.from_residual.result c.from_residual.ensures.1 is)

pub ask_noting-requires-clause-none : goal.ask_noting-requires-clause-none
ask_noting-requires-clause-none g c =
    c.as_mut_slice.ensures.value ∙ c.in_ok-row.ensures ∙ ap no_notes (c.item_count.ensures ∙ ap (λ (r : Rollout). item_count r.problem) c.requires.index)
