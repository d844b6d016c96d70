-- Whether an entry may be added after those that are counted and those ahead, by the counts.
use Rattle.std.specs.Prelude.{ℕ, ◌+◌, Bool, not, ◌&&◌, List, ◌==◌, nat_le, nat_lt}
use Rattle.rollout_rules.specs.Wan.{Rollout}
use Rattle.rollout_rules.specs.Items.{item_count, item_at}
use Rattle.rollout_rules.specs.Operations.{operations}
use Rattle.rollout_rules.specs.Needs.{needs_met}
use Rattle.rollout_rules.specs.Room.{fits}
use Rattle.rollout_rules.specs.declared.op.Op.{Op}
use Rattle.rollout_rules.specs.declared.op.Entry.{Entry}
use Rattle.dependency_graph.specs.Progress.{Counts}
use Rattle.dependency_graph.specs.Ahead.{settled_with, flies_with, places_with, places_begun}

-- whether the operation is its item's next, exists, and isn't in flight
abbrev pub is_next : Counts → List Entry → Op → Bool
is_next c ahead op =
    nat_lt op.item (item_count c.rollout.problem) && not (flies_with c ahead op.item)
    && (op.number == settled_with c ahead op.item + 1)
    && nat_le op.number (operations c.rollout.problem c.rollout.plan (item_at c.rollout.problem op.item))

-- whether the operation may begin
abbrev pub may_begin : Rollout → Counts → List Entry → Op → Bool
may_begin r c ahead op =
    is_next c ahead op && needs_met r.problem r.plan (places_with r c ahead) (item_at r.problem op.item)
    && fits r.problem r.plan (places_begun r c ahead op)

-- whether it may be done: its item exists, and it is in flight
abbrev pub may_end : Counts → List Entry → Op → Bool
may_end c ahead op =
    nat_lt op.item (item_count c.rollout.problem) && flies_with c ahead op.item
    && (op.number == settled_with c ahead op.item + 1)
