use Rattle.std.proofs.Common.{◌≡◌, ◌+◌, ◌≤◌, length, vec_capacity}
use Rattle.agent_service.specs.Services.{first_table, guests_of, most_seats, table_of}
use Rattle.agent_service.proofs.Rows.{IsEven, TurnsSoFar, weight}
use Rattle.agent_service.proofs.guests.serve_seated.Given as goal

abbrev pub invariant-loop-service : goal.invariant-loop-service
invariant-loop-service g l = record {
  so_far : TurnsSoFar
      (record { source = g.F.Guest.Source.told; sink = g.F.Guest.Sink.told })
      (first_table l.fn.agent (guests_of (g.F.Fleet.told l.fn.fleet)))
      (table_of l.agent l.seated.items l.talks.items (guests_of (g.F.Fleet.told l.fleet)) l.service);
  even : IsEven (table_of l.agent l.seated.items l.talks.items (guests_of (g.F.Fleet.told l.fleet)) l.service);
  within : l.service.guests ≤ l.guests;
  guest_room : most_seats ≤ vec_capacity l.seated;
  talk_room : most_seats ≤ vec_capacity l.talks;
  visiting : (g.F.Fleet.told l.fleet).visiting ≡ (g.F.Fleet.told l.fn.fleet).visiting + length l.seated.items;
  waiting : (g.F.Fleet.told l.fleet).waiting ≡ (g.F.Fleet.told l.fn.fleet).waiting;
  kept : (g.F.Fleet.told l.fleet).kept ≡ (g.F.Fleet.told l.fn.fleet).kept;
  lent : (g.F.Fleet.told l.fleet).lent ≡ (g.F.Fleet.told l.fn.fleet).lent;
  named : (g.F.Fleet.told l.fleet).named ≡ (g.F.Fleet.told l.fn.fleet).named;
  count : (g.F.Fleet.told l.fn.fleet).faults ≤ (g.F.Fleet.told l.fleet).faults;
}

abbrev pub decreases-loop-service : goal.decreases-loop-service
decreases-loop-service g l = weight l.guests (table_of l.agent l.seated.items l.talks.items (guests_of (g.F.Fleet.told l.fleet)) l.service)
