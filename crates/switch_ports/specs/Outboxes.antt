-- Which commands go to which switch.
use Rattle.std.specs.Prelude.{ℕ, Bool, false, List, [], ◌∷◌, ◌++◌, ◌==◌, Option, None, Some, nat_eq, position, slice_get, slice_index_or, slice_set}
use Rattle.std.specs.List.{filter}
use Rattle.wan_edge.specs.Frames.{Command}

abbrev pub home_in : Option (Option ℕ) → Option ℕ
home_in None = None
home_in (Some home) = home

-- the home of an item in a list of homes by item; none of one after the end
abbrev pub home_at : List (Option ℕ) → ℕ → Option ℕ
home_at homes item = home_in (slice_get homes item)

-- whether a home is this switch
abbrev pub is_switch : ℕ → Option ℕ → Bool
is_switch switch None = false
is_switch switch (Some home) = home == switch

-- those commands whose items' home is this switch, in order
abbrev pub own : List (Option ℕ) → ℕ → List Command → List Command
own homes switch commands = filter (λ c. is_switch switch (home_at homes c.item)) commands

-- the switches, and what lies ready for each
pub record Dealing : Type 0 where
  pub switches : List ℕ
  pub outboxes : List (List Command)

-- the place of a home among the switches
abbrev pub place_of : List ℕ → Option ℕ → Option ℕ
place_of switches None = None
place_of switches (Some home) = position (nat_eq home) switches

-- what lies ready with one command more at a place
abbrev pub with_put : List (List Command) → Option ℕ → Command → List (List Command)
with_put outboxes None c = outboxes
with_put outboxes (Some place) c = slice_set outboxes place (slice_index_or outboxes place [] ++ c ∷ [])
