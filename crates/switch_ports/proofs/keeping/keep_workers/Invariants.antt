use Rattle.std.proofs.Common.{◌≡◌, ◌≤◌}
use Rattle.switch_ports.specs.Berths.{AreApart, AreLent, after_keeping, ports_of}
use Rattle.switch_ports.specs.Hands.{all_berths}
use Rattle.switch_ports.proofs.keeping.keep_workers.Given as goal

-- with the ports of the workers that are left given back, all are
abbrev pub invariant-loop-ports : goal.invariant-loop-ports
invariant-loop-ports g l = record {
  apart : AreApart (all_berths l.workers.items);
  lent : AreLent (g.F.Fleet.told l.fleet).lent (all_berths l.workers.items);
  rest : after_keeping (ports_of (g.F.Fleet.told l.fleet)) (all_berths l.workers.items) ≡ after_keeping (ports_of (g.F.Fleet.told l.fn.fleet)) (all_berths l.fn.workers.items);
  coming : (g.F.Fleet.told l.fleet).coming ≡ (g.F.Fleet.told l.fn.fleet).coming;
  served : (g.F.Fleet.told l.fleet).served ≡ (g.F.Fleet.told l.fn.fleet).served;
  visiting : (g.F.Fleet.told l.fleet).visiting ≡ (g.F.Fleet.told l.fn.fleet).visiting;
  count : (g.F.Fleet.told l.fn.fleet).faults ≤ (g.F.Fleet.told l.fleet).faults;
}

abbrev pub decreases-loop-ports : goal.decreases-loop-ports
decreases-loop-ports g l = goal.left-loop-ports g l
