use Rattle.std.proofs.Common.{◌≡◌, ◌≤◌, length}
use Rattle.switch_ports.specs.Berths.{ports_of}
use Rattle.held_service.specs.Visits.{TellsBelow}
use Rattle.held_service.proofs.visiting.ask_each.Given as goal

-- the switches so far have told all
abbrev pub invariant-loop-switch : goal.invariant-loop-switch
invariant-loop-switch g l = record {
  rows : length l.notes ≡ length l.homes;
  tells : TellsBelow
      g.F.Port.Port.told
      l.problem
      l.homes
      l.migration
      l.rounds
      l.switch
      (ports_of (g.F.Fleet.told l.fn.fleet))
      (ports_of (g.F.Fleet.told l.fleet))
      l.notes;
  coming : (g.F.Fleet.told l.fleet).coming ≡ (g.F.Fleet.told l.fn.fleet).coming;
  served : (g.F.Fleet.told l.fleet).served ≡ (g.F.Fleet.told l.fn.fleet).served;
  visiting : (g.F.Fleet.told l.fleet).visiting ≡ (g.F.Fleet.told l.fn.fleet).visiting;
  count : (g.F.Fleet.told l.fn.fleet).faults ≤ (g.F.Fleet.told l.fleet).faults;
}
