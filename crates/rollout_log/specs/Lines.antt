-- The lines of a log. Each has a time in front, which may be any number.
use Rattle.std.specs.Prelude.{◌≡◌, ℕ, ◌==◌, ◌&&◌, Bool, true, false, List, [], ◌∷◌, ◌++◌, codes, decimal}
use Rattle.rollout_rules.specs.declared.op.Op.{Op}
use Rattle.rollout_rules.specs.declared.op.Entry.{Entry}
use Rattle.rollout_rules.specs.declared.op.Entry.TheVariants.{Begin, Done}

-- so many entries were found
abbrev pub start_line : ℕ → ℕ → List ℕ
start_line ms found = decimal ms ++ codes " start " ++ decimal found ++ codes "\n"

-- the operation was begun
abbrev pub begin_line : ℕ → ℕ → ℕ → List ℕ
begin_line ms item number = decimal ms ++ codes " begin " ++ decimal item ++ codes " " ++ decimal number ++ codes "\n"

-- and was settled
abbrev pub done_line : ℕ → ℕ → ℕ → List ℕ
done_line ms item number = decimal ms ++ codes " done " ++ decimal item ++ codes " " ++ decimal number ++ codes "\n"

abbrev pub entry_line : ℕ → Entry → List ℕ
entry_line ms (Begin op) = begin_line ms op.item op.number
entry_line ms (Done op) = done_line ms op.item op.number

-- a line for each of these entries, in order, all with one time
abbrev pub lines_at : ℕ → List Entry → List ℕ
lines_at ms [] = []
lines_at ms (entry ∷ later) = entry_line ms entry ++ lines_at ms later

-- the same, and in front of them, where they are the first, the line of a start
abbrev pub lines_of : Bool → ℕ → ℕ → List Entry → List ℕ
lines_of true ms found entries = start_line ms found ++ lines_at ms entries
lines_of false ms found entries = lines_at ms entries

-- whether two entries are one
abbrev pub is_same_op : Op → Op → Bool
is_same_op a b = (a.item == b.item) && (a.number == b.number)

abbrev pub is_same : Entry → Entry → Bool
is_same (Begin a) (Begin b) = is_same_op a b
is_same (Begin a) (Done b) = false
is_same (Done a) (Begin b) = false
is_same (Done a) (Done b) = is_same_op a b

-- the text begins with the line of this entry, and of the rest this holds
pub record BeginsWith (entry : Entry) (later : List ℕ → Type 0) (text : List ℕ) : Type 0 where
  pub ms : ℕ
  pub rest : List ℕ
  pub is : text ≡ entry_line ms entry ++ rest
  pub more : later rest

-- the text is a line for each of these entries, in order, each with a time of its own
abbrev pub AreLines : List Entry → List ℕ → Type 0
AreLines [] text = text ≡ []
AreLines (entry ∷ later) text = BeginsWith entry (λ rest. AreLines later rest) text
