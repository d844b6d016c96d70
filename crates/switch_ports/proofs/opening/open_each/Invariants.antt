use Rattle.std.proofs.Common.{◌≡◌, ◌≤◌, length, take}
use Rattle.switch_ports.specs.Berths.{ports_of}
use Rattle.switch_ports.specs.Opening.{Opens}
use Rattle.switch_ports.proofs.opening.open_each.Given as goal

-- the ports of the switches so far are open
abbrev pub invariant-loop-switch : goal.invariant-loop-switch
invariant-loop-switch g l = record {
  opens : Opens g.F.Port.Port.told l.problem (take l.switch-index l.homes) (ports_of (g.F.Fleet.told l.fn.fleet)) l.berths.items (ports_of (g.F.Fleet.told l.fleet));
  long : l.berths.len ≡ l.switch-index;
  room : length l.homes ≤ l.berths.cap;
  coming : (g.F.Fleet.told l.fleet).coming ≡ (g.F.Fleet.told l.fn.fleet).coming;
  served : (g.F.Fleet.told l.fleet).served ≡ (g.F.Fleet.told l.fn.fleet).served;
  visiting : (g.F.Fleet.told l.fleet).visiting ≡ (g.F.Fleet.told l.fn.fleet).visiting;
  count : (g.F.Fleet.told l.fn.fleet).faults ≤ (g.F.Fleet.told l.fleet).faults;
}
