use Rattle.std.proofs.Common.{◌≡◌, ◌+◌, ◌++◌, vec_len, vec_capacity, drop}
use Rattle.rollout_book.proofs.turning.add_entries.Given as goal

-- what was added, with what is left, is all
abbrev pub invariant-loop-entry : goal.invariant-loop-entry
invariant-loop-entry l = (l.entries.items ++ drop l.entry-index l.batch ≡ l.initial.entries.items ++ l.batch)
    × (vec_len l.entries ≡ vec_len l.initial.entries + l.entry-index)
    × (vec_capacity l.entries ≡ vec_capacity l.initial.entries)
