use Rattle.std.proofs.Common.{◌≡◌, ◌≤◌}
use Rattle.switch_ports.specs.Berths.{AreApart, AreLent, after_keeping, ports_of}
use Rattle.switch_ports.proofs.keeping.keep_ports.Given as goal

-- with the berths that are left given back, all are
abbrev pub invariant-loop-berth : goal.invariant-loop-berth
invariant-loop-berth g l = record {
  apart : AreApart l.berths.items;
  lent : AreLent (g.F.Fleet.told l.fleet).lent l.berths.items;
  rest : after_keeping (ports_of (g.F.Fleet.told l.fleet)) l.berths.items ≡ after_keeping (ports_of (g.F.Fleet.told l.fn.fleet)) l.fn.berths.items;
  coming : (g.F.Fleet.told l.fleet).coming ≡ (g.F.Fleet.told l.fn.fleet).coming;
  served : (g.F.Fleet.told l.fleet).served ≡ (g.F.Fleet.told l.fn.fleet).served;
  visiting : (g.F.Fleet.told l.fleet).visiting ≡ (g.F.Fleet.told l.fn.fleet).visiting;
  count : (g.F.Fleet.told l.fn.fleet).faults ≤ (g.F.Fleet.told l.fleet).faults;
}

abbrev pub decreases-loop-berth : goal.decreases-loop-berth
decreases-loop-berth g l = goal.left-loop-berth g l
