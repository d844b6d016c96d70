use Rattle.std.proofs.Common.{◌∙◌, ap, arith}
use Rattle.switch_ports.specs.Berths.{ports_of}
use Rattle.switch_ports.specs.Hands.{all_berths, berths_of}
use Rattle.switch_ports.proofs.Given.{keep_row, rest_apart, rest_lent_row, row_apart, row_lent, rows_append}
use Rattle.switch_ports.proofs.keeping.keep_workers.Goals as goal

pub keep_worker-requires-clause-apart : goal.keep_worker-requires-clause-apart
keep_worker-requires-clause-apart g c =
    row_apart (all_berths c.pop.new.self.items) (berths_of c.in-Some.ports) (all_berths c.loop-ports.workers.items)
    (ap all_berths c.in-Some.ensures.items ∙ rows_append c.pop.new.self.items c.in-Some.ports) c.loop-ports.invariant.apart

pub keep_worker-requires-clause-lent : goal.keep_worker-requires-clause-lent
keep_worker-requires-clause-lent g c =
    row_lent (g.F.Fleet.told c.loop-ports.fleet).lent (all_berths c.pop.new.self.items) (berths_of c.in-Some.ports) (all_berths c.loop-ports.workers.items)
    (ap all_berths c.in-Some.ensures.items ∙ rows_append c.pop.new.self.items c.in-Some.ports) c.loop-ports.invariant.lent

pub loop-ports-preserved : goal.loop-ports-preserved
loop-ports-preserved g c =
    let i = c.loop-ports.invariant in
    let before = ports_of (g.F.Fleet.told c.loop-ports.fleet) in
    let after = ports_of (g.F.Fleet.told c.keep_worker.new.fleet) in
    let rest = all_berths c.pop.new.self.items in
    let row = berths_of c.in-Some.ports in
    let all = all_berths c.loop-ports.workers.items in
    let parts = ap all_berths c.in-Some.ensures.items ∙ rows_append c.pop.new.self.items c.in-Some.ports in
    record {
      apart = rest_apart rest all row parts i.apart;
      lent = rest_lent_row before after rest row all parts c.keep_worker.ensures.ports i.apart i.lent;
      rest = keep_row before after rest row all parts c.keep_worker.ensures.ports ∙ i.rest;
      coming = c.keep_worker.ensures.guests.0 ∙ i.coming;
      served = c.keep_worker.ensures.guests.1 ∙ i.served;
      visiting = c.keep_worker.ensures.guests.2 ∙ i.visiting;
      count = omega (arith, i.count, c.keep_worker.ensures.count);
    }
