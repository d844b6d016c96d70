use Rattle.std.proofs.Common.{◌≡◌, drop, slice_index_or, None}
use Rattle.std.specs.List.{filter}
use Rattle.shared_book.specs.Replies.{is_among}
use Rattle.shared_book.specs.Waking.{first_of}
use Rattle.shared_book.proofs.waking.first_asked.Given as goal

-- the first one of those that are left is the first of all
abbrev pub invariant-loop-op : goal.invariant-loop-op
invariant-loop-op l =
    first_of (filter (λ op. is_among l.switches (slice_index_or l.homes op.item None)) (drop l.op-index l.ops))
    ≡ first_of (filter (λ op. is_among l.switches (slice_index_or l.homes op.item None)) l.ops)
