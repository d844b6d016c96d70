-- The bytes of entries, as rows of nine.
use Rattle.std.proofs.Common.{◌≡◌, ℕ, ◌-◌, ◌<◌, ◌^◌, Some, take, drop, get_or, List, [], ◌∷◌, ◌++◌, length, refl, sym, ◌∙◌, ap, arith, length-append}
use Rattle.std.proofs.lemmas.List.{append_assoc, append-nil, drop_at, take_all}
use Rattle.rollout_rules.specs.declared.op.Op.{Op}
use Rattle.rollout_rules.specs.declared.op.Entry.{Entry}
use Rattle.rollout_rules.specs.declared.op.Entry.TheVariants.{Begin, Done}
use Rattle.disk_model.specs.Numbers.{bytes_4, number_4}
use Rattle.disk_model.proofs.FourBytes.{length-bytes_4, number_4-bytes_4}
use Rattle.intent_journal.specs.Parts.{joined}
use Rattle.intent_journal.specs.Entries.{IsSmall, begin_kind, done_kind, entry_in, entry_rows, op_bytes, op_in, row_of}
use Rattle.intent_journal.specs.States.{AreRows}

length-op_bytes : (op : Op) → length (op_bytes op) ≡ 8
length-op_bytes op = omega (arith, length-append (bytes_4 op.item) (bytes_4 op.number), length-bytes_4 op.item, length-bytes_4 op.number)

pub length-row_of : (entry : Entry) → length (row_of entry) ≡ 9
length-row_of (Begin op) = omega (arith, length-op_bytes op)
length-row_of (Done op) = omega (arith, length-op_bytes op)

pub entry_rows-are : (entries : List Entry) → AreRows (entry_rows entries)
entry_rows-are [] = tt
entry_rows-are (entry ∷ later) = (length-row_of entry, entry_rows-are later)

pub length-entry_rows : (entries : List Entry) → length (entry_rows entries) ≡ length entries
length-entry_rows [] = refl
length-entry_rows (entry ∷ later) = omega (arith, length-entry_rows later)

-- a kind, an item and a number, put one after the other
pub row_in_turn : (old row item number : List ℕ) (kind : ℕ) → row ≡ kind ∷ (item ++ number) → ((old ++ kind ∷ []) ++ item) ++ number ≡ old ++ row
row_in_turn old row item number kind is =
    append_assoc (old ++ kind ∷ []) item number ∙ append_assoc old (kind ∷ []) (item ++ number) ∙ ap (λ (l : List ℕ). old ++ l) (sym is)

-- the first of the entries that are left is put after those that were put
pub put_next : (old new total : List ℕ) (rest : List Entry) (d : Entry) → 0 < length rest → old ++ joined (entry_rows rest) ≡ total → new ≡ old ++ row_of (get_or rest 0 d)
    → new ++ joined (entry_rows (take (length rest - 1) (drop 1 rest))) ≡ total
put_next old new total [] d some stood put = absurd (omega (arith, some))
put_next old new total (entry ∷ later) d some stood put =
    ap (λ (l : List Entry). new ++ joined (entry_rows l)) (take_all (length (entry ∷ later) - 1) later (omega arith))
    ∙ ap (λ (l : List ℕ). l ++ joined (entry_rows later)) put
    ∙ append_assoc old (row_of entry) (joined (entry_rows later))
    ∙ stood

-- an operation whose numbers were written after a kind is read
op_in-bytes : (op : Op) (kind : ℕ) → (op.item < 2 ^ 32) × (op.number < 2 ^ 32) → op_in (kind ∷ op_bytes op) ≡ op
op_in-bytes op kind small =
    let item = number_4-bytes_4 op.item (bytes_4 op.number) small.0 in
    let number = ap number_4 (drop_at (bytes_4 op.item) (bytes_4 op.number) 4 (length-bytes_4 op.item) ∙ sym (append-nil (bytes_4 op.number))) ∙ number_4-bytes_4 op.number [] small.1 in
    λ i. record { item = item i; number = number i }

-- the row of an entry is that entry's
pub entry_in-row_of : (entry : Entry) → IsSmall entry → entry_in (row_of entry) ≡ Some entry
entry_in-row_of (Begin op) small = ap (λ (o : Op). Some (Begin o)) (op_in-bytes op begin_kind small)
entry_in-row_of (Done op) small = ap (λ (o : Op). Some (Done o)) (op_in-bytes op done_kind small)
