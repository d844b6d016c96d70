-- How much room a disk gives the journal of a rollout.
use Rattle.std.specs.Prelude.{ℕ, ◌+◌, ◌*◌, max}
use Rattle.rollout_rules.specs.Items.{item_count}
use Rattle.rollout_rules.specs.Wan.{Rollout, last_stage}

-- How many bytes a part of the journal comes to at most: its head with a number for each item, and 28 for each operation, of which an item has one a
-- step at most.
abbrev pub part_room : Rollout → ℕ
part_room r = 45 + 4 * item_count r.problem + 28 * (item_count r.problem * last_stage r.plan)

-- what any journal may take, however small its plan
abbrev pub least_room : ℕ
least_room = 33_554_432

-- Room for the slots and three parts: one that is gone on from, one that is written anew after it, and what an older one left between them.
abbrev pub journal_room : Rollout → ℕ
journal_room r = max least_room (35 + 3 * part_room r)
