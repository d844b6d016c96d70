-- A gate of two halves: who comes into a hear and goes out of one, and when both are inside at once.
use Rattle.std.specs.Prelude.{◌≡◌, ℕ, ◌==◌, ◌||◌, ◌&&◌, Bool, true, false, not, List, [], ◌∷◌, if◌then◌else◌}
use Rattle.logbook.specs.Pages.{Book, Cell, Named, Step, View}
use Rattle.lossy_link.specs.Faithful.{Faith}
use Rattle.lossy_link.specs.declared.gate.crossing.Crossing.{Crossing}

-- whether each half is inside a hear
pub record Inside : Type 0 where
  pub first : Bool
  pub second : Bool

abbrev pub nobody : Inside
nobody = record { first = false; second = false }

abbrev pub are_both : Inside → Bool
are_both i = i.first && i.second

-- once a half has come in or gone out
abbrev pub after_crossing : Inside → Crossing → Inside
after_crossing i c = record {
  first = if c.second then i.first else c.enters;
  second = if c.second then c.enters else i.second;
}

abbrev pub after_crossings : Inside → List Crossing → Inside
after_crossings i [] = i
after_crossings i (c ∷ cs) = after_crossings (after_crossing i c) cs

-- whether both are inside at once, before these crossings or after some of them
abbrev pub meet_in : Inside → List Crossing → Bool
meet_in i [] = are_both i
meet_in i (c ∷ cs) = are_both i || meet_in (after_crossing i c) cs

-- who is inside at the end of the crossings of a gate
abbrev pub inside_at : List Crossing → Inside
inside_at = after_crossings nobody

-- whether both halves were inside at once: then the gate is open
abbrev pub have_met : List Crossing → Bool
have_met = meet_in nobody

-- whether this half is inside
abbrev pub is_inside : Bool → Inside → Bool
is_inside second i = if second then i.second else i.first

-- the gate's word: whom it finds inside, until it is open for good
abbrev pub half_word : Bool → ℕ
half_word second = if second then 2 else 1

abbrev pub open_word : ℕ
open_word = 3

abbrev pub word_by : Bool → Inside → ℕ
word_by met i = if met then open_word else if i.first then 1 else if i.second then 2 else 0

abbrev pub word_of : List Crossing → ℕ
word_of crossings = word_by (have_met crossings) (inside_at crossings)

-- what the word becomes by a crossing
abbrev pub after_word : ℕ → Crossing → ℕ
after_word word c =
    if c.enters
    then (if word == 0 then half_word c.second else if word == half_word (not c.second) then open_word else word)
    else (if word == half_word c.second then 0 else word)

-- the first word of the book is that of its crossings; there is a second one, which nobody uses
abbrev pub IsGate : List Cell → List Crossing → Type 0
IsGate cells crossings = cells ≡ (word_of crossings, true) ∷ (0, true) ∷ []

abbrev pub word_in : Book → Named
word_in book = record { tracked = true; key = 0; book = book }

-- the crossings so far were seen, and their word found
abbrev pub Looks : Step Crossing → View Crossing ℕ → ℕ → View Crossing ℕ → Type 0
Looks s before found now = word_of now.0 ≡ found

-- the same, and where the word was the one expected the half has crossed
abbrev pub Crosses : Step Crossing → View Crossing ℕ → ℕ → View Crossing ℕ → Type 0
Crosses s before found now = word_of now.0 ≡ (if found == s.old then s.new else found)

-- whose half it is, which one, and the crossings of its gate that it has seen
pub record Half : Type 0 where
  pub gate : Book
  pub second : Bool
  pub seen : List Crossing

abbrev pub crossing : Bool → Bool → Crossing
crossing second enters = record { second = second; enters = enters }

-- a faithful port behind one half of a gate
pub record Gated : Type 0 where
  pub gate : Half
  pub port : Faith
