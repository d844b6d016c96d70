use Rattle.std.proofs.Common.{◌≡◌, ◌∷◌, ◌++◌, [], List, ℕ, Some, None, length, take, drop, get_or, suc, refl, subst, sym, ap, ◌∙◌, arith}
use Rattle.std.specs.Prelude.{IfSome}
use Rattle.std.proofs.Math.Seq.{take-length}
use Rattle.std.proofs.lemmas.List.{take_more}
use Rattle.lists.proofs.Rows.{parted}
use Rattle.wan_edge.specs.Fleets.{with_one}
use Rattle.switch_ports.specs.Berths.{ports_of}
use Rattle.switch_ports.specs.Opening.{Opens}
use Rattle.switch_ports.proofs.Given.{opened_none, opened_one, opened_until}
use Rattle.switch_ports.proofs.Numbers.{distinct_at}
use Rattle.switch_ports.proofs.opening.open_each.Goals as goal

pub loop-switch-init : goal.loop-switch-init
loop-switch-init g c =
    let before = ports_of (g.F.Fleet.told c.args.fleet.now) in
    record {
      opens = subst (λ bs. Opens g.F.Port.Port.told c.args.problem.now [] before bs before) (sym c.requires.fresh) (opened_none g.F.Port.Port.told c.args.problem.now before);
      long = omega (arith, ap length c.requires.fresh, c.args.berths.now.ok.0);
      room = c.requires.room;
      coming = refl;
      served = refl;
      visiting = refl;
      count = omega arith;
    }

pub loop-switch-preserved : goal.loop-switch-preserved
loop-switch-preserved g c =
    let i = c.loop-switch.invariant in
    let told = c.in-Ok.ensures in
    let homes = c.args.homes.now in
    let at = c.loop-switch.switch-index in
    let switch = get_or homes at 0 in
    let before = ports_of (g.F.Fleet.told c.args.fleet.now) in
    let now = ports_of (g.F.Fleet.told c.loop-switch.fleet) in
    let after = ports_of (g.F.Fleet.told c.port.new.self) in
    let p = c.args.problem.now in
    let asked = told.asked ∙ ap (λ (name : List ℕ). with_one (g.F.Fleet.told c.loop-switch.fleet).named switch name) c.switch_name.ensures in
    let one = opened_one g.F.Port.Port.told p (take at homes) before now after c.loop-switch.berths.items switch c.in-Ok.port i.opens told.given told.taken told.place asked in
    record {
      opens = subst (λ (hs : List ℕ). Opens g.F.Port.Port.told p hs before c.push_reserved.new.self.items after) (sym (take_more homes at 0 c.loop-switch-test.true))
          (subst (λ bs. Opens g.F.Port.Port.told p (take at homes ++ switch ∷ []) before bs after) (sym c.push_reserved.ensures.items) one);
      long = omega (arith, i.long, c.push_reserved.ensures.len);
      room = omega (arith, i.room, c.push_reserved.ensures.capacity);
      coming = told.guests.0 ∙ i.coming;
      served = told.guests.1 ∙ i.served;
      visiting = told.guests.2 ∙ i.visiting;
      count = omega (arith, i.count, told.count);
    }

pub returns-in-Err-clause-until : goal.returns-in-Err-clause-until
returns-in-Err-clause-until g c =
    let i = c.loop-switch.invariant in
    let told = c.in-Err.ensures in
    let homes = c.args.homes.now in
    let at = c.loop-switch.switch-index in
    let switch = get_or homes at 0 in
    let before = ports_of (g.F.Fleet.told c.args.fleet.now) in
    let now = ports_of (g.F.Fleet.told c.loop-switch.fleet) in
    let after = ports_of (g.F.Fleet.told c.port.new.self) in
    let p = c.args.problem.now in
    let none = subst (λ (name : List ℕ). IfSome now.waiting (λ w. now.named switch ≡ Some name → w switch ≡ None)) c.switch_name.ensures told.none in
    opened_until g.F.Port.Port.told p homes (take at homes) (drop (suc at) homes) switch before now after c.loop-switch.berths.items
    (parted homes at 0 c.loop-switch-test.true) (distinct_at homes at c.loop-switch-test.true c.requires.once)
    i.opens none told.still_waiting told.left told.no_place told.unasked

pub returns-clause-opened : goal.returns-clause-opened
returns-clause-opened g c =
    let homes = c.args.homes.now in
    let all : c.loop-switch.switch-index ≡ length homes = omega (arith, c.loop-switch-test.false, c.loop-switch.auto.switch-index-end) in
    subst (λ (hs : List ℕ). Opens g.F.Port.Port.told c.args.problem.now hs (ports_of (g.F.Fleet.told c.args.fleet.now)) c.loop-switch.berths.items (ports_of (g.F.Fleet.told c.loop-switch.fleet)))
    (ap (λ k. take k homes) all ∙ take-length homes) c.loop-switch.invariant.opens
