use Rattle.std.proofs.Common.{◌≡◌}
use Rattle.dependency_graph.specs.Progress.{flies_by}
use Rattle.rollout_core.specs.InFlight.{passing}
use Rattle.rollout_core.proofs.in_flight.InFlight.note.Given as goal

-- of the items before this one those that fly are noted
abbrev pub invariant-loop-item : goal.invariant-loop-item
invariant-loop-item l = record {
  room : l.self.room ≡ l.fn.self.room;
  items : l.self.items ≡ passing (flies_by l.progress) l.item;
}
