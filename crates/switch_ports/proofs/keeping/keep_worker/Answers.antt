use Rattle.std.proofs.Common.{[], ◌∷◌, ◌∙◌, arith}
use Rattle.switch_ports.specs.Berths.{ports_of}
use Rattle.switch_ports.specs.Hands.{berths_of}
use Rattle.switch_ports.proofs.Given.{keep_one, last_lent, rest_apart, rest_lent, taken}
use Rattle.switch_ports.proofs.keeping.keep_worker.Goals as goal

pub keep-requires : goal.keep-requires
keep-requires g c =
    last_lent (g.F.Fleet.told c.loop-berth.fleet).lent (berths_of c.take.new.self) (berths_of c.loop-berth.ports) c.in-Some.berth
    (taken c.in-Some.berth c.loop-berth.ports c.take.new.self c.in-Some.ensures) c.loop-berth.invariant.lent

pub loop-berth-preserved : goal.loop-berth-preserved
loop-berth-preserved g c =
    let i = c.loop-berth.invariant in
    let parts = taken c.in-Some.berth c.loop-berth.ports c.take.new.self c.in-Some.ensures in
    record {
      apart = rest_apart (berths_of c.take.new.self) (berths_of c.loop-berth.ports) (c.in-Some.berth ∷ []) parts i.apart;
      lent = rest_lent (g.F.Fleet.told c.loop-berth.fleet).lent (g.F.Fleet.told c.keep.new.self).lent (berths_of c.take.new.self) (berths_of c.loop-berth.ports) c.in-Some.berth parts c.keep.ensures.place i.apart i.lent;
      rest = keep_one (ports_of (g.F.Fleet.told c.loop-berth.fleet)) (ports_of (g.F.Fleet.told c.keep.new.self))
          (berths_of c.take.new.self) (berths_of c.loop-berth.ports) c.in-Some.berth parts c.keep.ensures.ready c.keep.ensures.back c.keep.ensures.place c.keep.ensures.names ∙ i.rest;
      coming = c.keep.ensures.guests.0 ∙ i.coming;
      served = c.keep.ensures.guests.1 ∙ i.served;
      visiting = c.keep.ensures.guests.2 ∙ i.visiting;
      count = omega (arith, i.count, c.keep.ensures.count);
    }
