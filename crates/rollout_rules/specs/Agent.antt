-- What a switch does with a command: the next number of a migration only, in order and once. A later migration takes over
-- what an earlier one left.
use Rattle.std.specs.Prelude.{ℕ, ◌+◌, Bool, ◌&&◌, ◌||◌, List, [], ◌==◌, nat_le, nat_lt, if◌then◌else◌}
use Rattle.rollout_rules.specs.declared.held.Held.{Held}

-- the pair of a migration and a number, and the one that every switch holds of every item at first
abbrev pub pair_of : ℕ → ℕ → Held
pair_of migration number = record { migration = migration; number = number }

abbrev pub first_pair : Held
first_pair = pair_of 0 0

-- whether a pair is at most another, by migration and then number
abbrev pub is_at_most : Held → Held → Bool
is_at_most a b = nat_lt a.migration b.migration || ((a.migration == b.migration) && nat_le a.number b.number)

-- what a switch holds of an item: a pair, and the content that the operation last applied brought
pub record Holding : Type 0 where
  pub held : Held
  pub content : List ℕ

abbrev pub nothing_held : Holding
nothing_held = record { held = first_pair; content = [] }

-- Whether an operation of a migration is the next after the pair held: the next number of the same migration, or any
-- operation of a later one.
abbrev pub is_next_command : Held → Held → Bool
is_next_command held asked =
    ((asked.migration == held.migration) && (asked.number == held.number + 1))
    || (nat_lt held.migration asked.migration && nat_le 1 asked.number)

-- what is held after a command: its pair and content where it is the next, else what was held. The answer to a command is
-- the item and the pair held after it.
abbrev pub held_after : Holding → Held → List ℕ → Holding
held_after holding asked content = if is_next_command holding.held asked then record { held = asked; content = content } else holding
