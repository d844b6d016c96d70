use Rattle.std.proofs.Common.{◌≡◌, ◌≤◌, vec_len, vec_capacity, map, filter}
use Rattle.rollout_rules.specs.History.{flies}
use Rattle.rollout_rules.specs.Release.{next_op}
use Rattle.update_scheduler.specs.Rows.{numbers}
use Rattle.update_scheduler.proofs.in_flight.find.Given as goal

-- those of the items before this one
abbrev pub invariant-loop-item : goal.invariant-loop-item
invariant-loop-item l = (l.ops.items ≡ map (next_op l.graph.history) (filter (flies l.graph.history) (numbers l.item)))
    × (vec_len l.ops ≤ l.item)
    × (vec_capacity l.ops ≡ vec_capacity l.initial.ops)
