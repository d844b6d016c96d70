use Rattle.std.proofs.Common.{◌≡◌, List, Option, ap, sym, subst, refl}
use Rattle.rollout_rules.specs.declared.held.Held.{Held}
use Rattle.switch_ports.specs.Berths.{ports_of}
use Rattle.held_service.specs.Visits.{TellsAll}
use Rattle.held_service.specs.declared.not_told.NotTold.{NotTold}
use Rattle.held_service.specs.declared.not_told.NotTold.TheVariants as cause
use Rattle.fence_takeover.proofs.Answered.{fences-told, fences-untold, not-told, taken-port, untold-port}
use Rattle.fence_takeover.proofs.fencing.fence.Goals as goal

pub returns-in-Ok-clause-fences : goal.returns-in-Ok-clause-fences
returns-in-Ok-clause-fences g c =
    let r = c.args.plan.now in
    let tell = g.F.Port.Port.told in
    let before = ports_of (g.F.Fleet.told c.args.fleet.now) in
    let now = ports_of (g.F.Fleet.told c.held_pairs.new.fleet) in
    let tells = subst (λ (notes : List (Option Held)). TellsAll tell r.problem r.plan c.args.migration c.args.rounds before now notes) (sym c.as_slice.ensures.value) c.in-Ok.ensures.ok in
    fences-told tell r.problem r.plan c.args.migration c.args.rounds before now c.as_slice.result.now c.taken_start.result tells c.taken_start.ensures.ok c.taken_start.ensures.err

pub returns-in-Ok-clause-cause : goal.returns-in-Ok-clause-cause
returns-in-Ok-clause-cause g c = λ w is.
    let r = c.args.plan.now in
    absurd (taken-port r.problem r.plan c.args.migration w c.as_slice.result.now c.taken_start.result c.taken_start.ensures.err is)

pub returns-in-Err-clause-fences : goal.returns-in-Err-clause-fences
returns-in-Err-clause-fences g c =
    let r = c.args.plan.now in
    let before = ports_of (g.F.Fleet.told c.args.fleet.now) in
    let now = ports_of (g.F.Fleet.told c.held_pairs.new.fleet) in
    fences-untold g.F.Port.Port.told r.problem r.plan c.args.migration c.args.rounds before now c.in-Err.why c.end_of.result c.end_of.ensures c.in-Err.ensures.err

pub returns-in-Err-clause-cause : goal.returns-in-Err-clause-cause
returns-in-Err-clause-cause g c = λ w is. c.in-Err.ensures.cause w (not-told c.args.rounds w c.in-Err.why c.end_of.result c.end_of.ensures is)
