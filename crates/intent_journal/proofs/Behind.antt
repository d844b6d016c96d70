-- What stands after the list of a journal, and what is read there.
use Rattle.std.proofs.Common.{◌≡◌, Bool, true, false, if◌then◌else◌, ℕ, List, ◌++◌, drop, Option, Some, None, IfSome, sym, ap, ◌∙◌}
use Rattle.std.proofs.lemmas.List.{append-nil}
use Rattle.rollout_rules.specs.declared.op.Entry.{Entry}
use Rattle.intent_journal.specs.Opened.{IsKept}
use Rattle.intent_journal.specs.Parts.{batches_of}
use Rattle.intent_journal.specs.Reading.{Listed, Walks, batch_at, nothing_read, whole_list, with_rows}
use Rattle.intent_journal.specs.States.{IsGate}
use Rattle.intent_journal.proofs.WholeBatches.{batch_none}

-- a journal that is kept is at rest with its gate
pub is_gate : (gate end : ℕ) (told : Option (List ℕ)) (left : List ℕ → Type 0) → IsKept gate end told left → IfSome told (IsGate gate)
is_gate gate end None left kept = tt
is_gate gate end (Some image) left kept = (kept.rest.0, kept.rest.1)

abbrev read_so : List Entry → Bool → Listed
read_so entries whole = record { entries = entries; whole = whole }

-- the entries of rows that were read, where each is one, and where one isn't
pub whole_is : (listed : Listed) (entries : List Entry) (whole : Bool) → read_so entries whole ≡ listed → whole ≡ true → Some entries ≡ whole_list listed
whole_is listed entries whole is each = ap (λ (b : Bool). if b then Some entries else None) (sym each) ∙ ap whole_list is

pub none_is : (listed : Listed) (entries : List Entry) (whole : Bool) → read_so entries whole ≡ listed → whole ≡ false → None ≡ whole_list listed
none_is listed entries whole is no_row = ap (λ (b : Bool). if b then Some entries else None) (sym no_row) ∙ ap whole_list is

-- who has walked to a gate without a batch has read all that stood there
pub entries_read : (image : List ℕ) (from gate : ℕ) (old new : Listed) → old ≡ nothing_read → Walks image from gate old new → batch_at image gate ≡ None → with_rows nothing_read (batches_of (drop from image)) ≡ new
entries_read image from gate old new fresh walks none =
    ap (with_rows nothing_read) (walks.are ∙ ap (λ (l : List (List ℕ)). walks.rows ++ l) (batch_none image gate walks.within none) ∙ append-nil walks.rows)
    ∙ ap (λ (l : Listed). with_rows l walks.rows) (sym fresh)
    ∙ sym walks.read
