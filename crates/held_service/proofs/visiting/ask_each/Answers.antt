use Rattle.std.proofs.Common.{◌≡◌, ℕ, None, length, refl, ap, ◌∙◌, subst, arith}
use Rattle.std.proofs.lemmas.List.{length-replicate}
use Rattle.wan_edge.proofs.Faults.{rose_since}
use Rattle.switch_ports.specs.Berths.{ports_of}
use Rattle.held_service.specs.Noting.{Notes}
use Rattle.held_service.specs.Visits.{TellsBelow}
use Rattle.held_service.proofs.Visited.{below-more, below-none, fails-for, one-rows, stops-below}
use Rattle.held_service.proofs.visiting.ask_each.Goals as goal

pub loop-switch-init : goal.loop-switch-init
loop-switch-init g c = record {
  rows = ap (λ (ns : Notes). length ns) c.requires.none ∙ length-replicate (length c.args.homes.now) None;
  tells = below-none g.F.Port.Port.told c.args.problem.now c.args.homes.now c.args.migration c.args.rounds (ports_of (g.F.Fleet.told c.args.fleet.now)) c.args.notes.now c.requires.none;
  coming = refl;
  served = refl;
  visiting = refl;
  count = omega arith;
}

pub loop-switch-preserved : goal.loop-switch-preserved
loop-switch-preserved g c =
    let tell = g.F.Port.Port.told in
    let i = c.loop-switch.invariant in
    let before = ports_of (g.F.Fleet.told c.args.fleet.now) in
    let moment = ports_of (g.F.Fleet.told c.loop-switch.fleet) in
    let now = ports_of (g.F.Fleet.told c.ask_one.new.fleet) in
    let asks = c.in_ok-ask_one.ensures.asks in
    record {
      rows = one-rows tell c.args.problem.now c.args.homes.now c.loop-switch.switch c.loop-switch.notes c.args.migration c.args.rounds moment now c.ask_one.new.notes asks ∙ i.rows;
      tells = below-more tell c.args.problem.now c.args.homes.now c.args.migration c.args.rounds c.loop-switch.switch before moment now c.loop-switch.notes c.ask_one.new.notes i.tells asks;
      coming = c.ask_one.ensures.guests.0 ∙ i.coming;
      served = c.ask_one.ensures.guests.1 ∙ i.served;
      visiting = c.ask_one.ensures.guests.2 ∙ i.visiting;
      count = omega (arith, i.count, c.ask_one.ensures.count);
    }

pub returns-in_err-ask_one-clause-asks : goal.returns-in_err-ask_one-clause-asks
returns-in_err-ask_one-clause-asks g c =
    let tell = g.F.Port.Port.told in
    let i = c.loop-switch.invariant in
    let before = ports_of (g.F.Fleet.told c.args.fleet.now) in
    let moment = ports_of (g.F.Fleet.told c.loop-switch.fleet) in
    let now = ports_of (g.F.Fleet.told c.ask_one.new.fleet) in
    stops-below tell c.args.problem.now c.args.homes.now c.args.migration c.args.rounds c.loop-switch.switch before moment now c.loop-switch.notes c.ask_one.new.notes c.in_err-ask_one.field-0.0 c.from_residual.result
    (omega (arith, c.loop-switch-test.true, ap length c.switches.ensures.list)) i.tells c.in_err-ask_one.ensures.asks c.from_residual.ensures.1

pub returns-in_err-ask_one-clause-guests : goal.returns-in_err-ask_one-clause-guests
returns-in_err-ask_one-clause-guests g c =
    let i = c.loop-switch.invariant in
    let one = c.ask_one.ensures.guests in
    (one.0 ∙ i.coming, one.1 ∙ i.served, one.2 ∙ i.visiting)

pub returns-in_err-ask_one-clause-cause : goal.returns-in_err-ask_one-clause-cause
returns-in_err-ask_one-clause-cause g c = λ w is.
    rose_since _ _ _ c.loop-switch.invariant.count (c.in_err-ask_one.ensures.cause w (fails-for c.in_err-ask_one.field-0.0 w c.from_residual.result c.from_residual.ensures.1 is))

pub returns-clause-asks : goal.returns-clause-asks
returns-clause-asks g c =
    let before = ports_of (g.F.Fleet.told c.args.fleet.now) in
    let now = ports_of (g.F.Fleet.told c.loop-switch.fleet) in
    let p = c.args.problem.now in
    let all : c.loop-switch.switch ≡ length p.switches = omega (arith, c.loop-switch-test.false, c.loop-switch.auto.switch-end, ap length c.switches.ensures.list) in
    subst (λ (n : ℕ). TellsBelow g.F.Port.Port.told p c.args.homes.now c.args.migration c.args.rounds n before now c.loop-switch.notes) all c.loop-switch.invariant.tells
