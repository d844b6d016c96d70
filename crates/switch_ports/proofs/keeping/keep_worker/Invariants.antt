use Rattle.std.proofs.Common.{◌≡◌, ◌≤◌, length}
use Rattle.switch_ports.specs.Berths.{AreApart, AreLent, after_keeping, ports_of}
use Rattle.switch_ports.specs.Hands.{berths_of}
use Rattle.switch_ports.proofs.keeping.keep_worker.Given as goal

-- with the ports that are left given back, all are
abbrev pub invariant-loop-berth : goal.invariant-loop-berth
invariant-loop-berth g l = record {
  apart : AreApart (berths_of l.ports);
  lent : AreLent (g.F.Fleet.told l.fleet).lent (berths_of l.ports);
  rest : after_keeping (ports_of (g.F.Fleet.told l.fleet)) (berths_of l.ports) ≡ after_keeping (ports_of (g.F.Fleet.told l.fn.fleet)) (berths_of l.fn.ports);
  coming : (g.F.Fleet.told l.fleet).coming ≡ (g.F.Fleet.told l.fn.fleet).coming;
  served : (g.F.Fleet.told l.fleet).served ≡ (g.F.Fleet.told l.fn.fleet).served;
  visiting : (g.F.Fleet.told l.fleet).visiting ≡ (g.F.Fleet.told l.fn.fleet).visiting;
  count : (g.F.Fleet.told l.fn.fleet).faults ≤ (g.F.Fleet.told l.fleet).faults;
}

abbrev pub decreases-loop-berth : goal.decreases-loop-berth
decreases-loop-berth g l = length l.ports
