-- What is noted of items, by their numbers, from the answers about them.
use Rattle.std.specs.Prelude.{ℕ, Bool, not, is_some, List, [], ◌∷◌, replicate, slice_get, slice_set, Option, None, Some}
use Rattle.std.specs.List.{filter}
use Rattle.rollout_rules.specs.declared.held.Held.{Held}
use Rattle.wan_edge.specs.Frames.{AnswerFrame}
use Rattle.wan_edge.specs.Switches.{pair_given}

-- of each item the pair that its switch was last told to hold, where an answer has told of it
abbrev pub Notes : Type 0
Notes = List (Option Held)

-- nothing, of so many items
abbrev pub no_notes : ℕ → Notes
no_notes count = replicate count None

-- The pair that an answer gives takes the place of what was noted of its item.
abbrev pub with_answer : Notes → AnswerFrame → Notes
with_answer notes a = slice_set notes a.1.item (Some (pair_given a))

abbrev pub with_answers : Notes → List AnswerFrame → Notes
with_answers notes [] = notes
with_answers notes (a ∷ later) = with_answers (with_answer notes a) later

abbrev pub held_in : Option (Option Held) → Option Held
held_in None = None
held_in (Some held) = held

-- what is noted of an item
abbrev pub noted_at : Notes → ℕ → Option Held
noted_at notes item = held_in (slice_get notes item)

abbrev pub is_untold : Notes → ℕ → Bool
is_untold notes item = not (is_some (noted_at notes item))

-- of these items those of which nothing is noted, and the first of a row
abbrev pub untold : Notes → List ℕ → List ℕ
untold notes items = filter (is_untold notes) items

abbrev pub first_of : List ℕ → Option ℕ
first_of [] = None
first_of (n ∷ later) = Some n
