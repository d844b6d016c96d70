use Rattle.std.proofs.Common.{◌≡◌, ◌+◌, ◌≤◌, length}
use Rattle.agent_service.specs.Services.{after_leaving}
use Rattle.agent_service.proofs.seats.keep_seated.Given as goal

-- with the guests that are left given back, all are
abbrev pub invariant-loop-guest : goal.invariant-loop-guest
invariant-loop-guest g l = record {
  back : after_leaving (g.F.Fleet.told l.fleet).served l.seated.items ≡ after_leaving (g.F.Fleet.told l.fn.fleet).served l.fn.seated.items;
  visiting : (g.F.Fleet.told l.fleet).visiting + length l.fn.seated.items ≡ (g.F.Fleet.told l.fn.fleet).visiting + length l.seated.items;
  known : length l.seated.items ≤ (g.F.Fleet.told l.fleet).visiting;
  coming : (g.F.Fleet.told l.fleet).coming ≡ (g.F.Fleet.told l.fn.fleet).coming;
  waiting : (g.F.Fleet.told l.fleet).waiting ≡ (g.F.Fleet.told l.fn.fleet).waiting;
  kept : (g.F.Fleet.told l.fleet).kept ≡ (g.F.Fleet.told l.fn.fleet).kept;
  lent : (g.F.Fleet.told l.fleet).lent ≡ (g.F.Fleet.told l.fn.fleet).lent;
  named : (g.F.Fleet.told l.fleet).named ≡ (g.F.Fleet.told l.fn.fleet).named;
  count : (g.F.Fleet.told l.fn.fleet).faults ≤ (g.F.Fleet.told l.fleet).faults;
}

abbrev pub decreases-loop-guest : goal.decreases-loop-guest
decreases-loop-guest g l = goal.left-loop-guest g l
