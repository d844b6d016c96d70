-- The nine bytes of an entry: its kind, the number of the item, and that of the operation.
use Rattle.std.specs.Prelude.{⊤, ℕ, ◌<◌, ◌^◌, ◌==◌, List, [], ◌∷◌, ◌++◌, map, drop, Option, Some, None, if◌then◌else◌}
use Rattle.rollout_rules.specs.declared.op.Op.{Op}
use Rattle.rollout_rules.specs.declared.op.Entry.{Entry}
use Rattle.rollout_rules.specs.declared.op.Entry.TheVariants.{Begin, Done}
use Rattle.disk_model.specs.Numbers.{byte_at, bytes_4, number_4}

abbrev pub begin_kind : ℕ
begin_kind = 1

abbrev pub done_kind : ℕ
done_kind = 2

abbrev pub op_bytes : Op → List ℕ
op_bytes op = bytes_4 op.item ++ bytes_4 op.number

abbrev pub row_of : Entry → List ℕ
row_of (Begin op) = begin_kind ∷ op_bytes op
row_of (Done op) = done_kind ∷ op_bytes op

abbrev pub entry_rows : List Entry → List (List ℕ)
entry_rows entries = map row_of entries

abbrev pub op_in : List ℕ → Op
op_in row = record { item = number_4 (drop 1 row); number = number_4 (drop 5 row) }

-- the entry that a row is, where it is one
abbrev pub entry_in : List ℕ → Option Entry
entry_in row =
    if byte_at 0 row == begin_kind then Some (Begin (op_in row))
    else if byte_at 0 row == done_kind then Some (Done (op_in row)) else None

-- the numbers of an entry have four bytes each
abbrev pub IsSmall : Entry → Type 0
IsSmall (Begin op) = (op.item < 2 ^ 32) × (op.number < 2 ^ 32)
IsSmall (Done op) = (op.item < 2 ^ 32) × (op.number < 2 ^ 32)

abbrev pub AllSmall : List Entry → Type 0
AllSmall [] = ⊤
AllSmall (entry ∷ later) = IsSmall entry × AllSmall later
