use Rattle.std.proofs.Common.{[], ◌∷◌, ◌∙◌, arith}
use Rattle.switch_ports.specs.Berths.{ports_of}
use Rattle.switch_ports.proofs.Given.{keep_one, rest_apart, rest_lent}
use Rattle.switch_ports.proofs.keeping.keep_ports.Goals as goal

pub loop-berth-preserved : goal.loop-berth-preserved
loop-berth-preserved g c =
    let i = c.loop-berth.invariant in
    let parts = c.in-Some.ensures.items in
    record {
      apart = rest_apart c.pop.new.self.items c.loop-berth.berths.items (c.in-Some.berth ∷ []) parts i.apart;
      lent = rest_lent (g.F.Fleet.told c.loop-berth.fleet).lent (g.F.Fleet.told c.keep.new.self).lent c.pop.new.self.items c.loop-berth.berths.items c.in-Some.berth parts c.keep.ensures.place i.apart i.lent;
      rest = keep_one (ports_of (g.F.Fleet.told c.loop-berth.fleet)) (ports_of (g.F.Fleet.told c.keep.new.self))
          c.pop.new.self.items c.loop-berth.berths.items c.in-Some.berth parts c.keep.ensures.ready c.keep.ensures.back c.keep.ensures.place c.keep.ensures.names ∙ i.rest;
      coming = c.keep.ensures.guests.0 ∙ i.coming;
      served = c.keep.ensures.guests.1 ∙ i.served;
      visiting = c.keep.ensures.guests.2 ∙ i.visiting;
      count = omega (arith, i.count, c.keep.ensures.count);
    }
