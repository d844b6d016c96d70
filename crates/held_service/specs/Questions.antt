-- What switches are asked: of each item that has an operation its home, by a command that no switch ever applies.
use Rattle.std.specs.Prelude.{ℕ, Bool, ◌==◌, List, [], ◌∷◌, length, map, nat_lt, Option, None, if◌then◌else◌}
use Rattle.std.specs.List.{flat_map}
use Rattle.rollout_rules.specs.Items.{home_of, item_at, item_count}
use Rattle.rollout_rules.specs.Operations.{operations}
use Rattle.rollout_rules.specs.Sums.{list_below}
use Rattle.rollout_rules.specs.Wan.{Plan, Problem}
use Rattle.wan_edge.specs.Frames.{Command, CommandFrame, command_bytes}
use Rattle.switch_ports.specs.Homes.{passing_below}
use Rattle.switch_ports.specs.Outboxes.{home_at, is_switch}

-- ---- questions

-- What is asked about an item: a command with number 0, which the agent rule applies in no migration, and the least content that a frame has.
abbrev pub question_of : ℕ → Command
question_of item = record { item = item; number = 0; scale = 1; content = 0 ∷ [] }

-- it names a migration
abbrev pub question : ℕ → ℕ → CommandFrame
question migration item = (migration, question_of item)

-- those about items, and their bytes, one after the other
abbrev pub questions : ℕ → List ℕ → List CommandFrame
questions migration items = map (question migration) items

abbrev pub question_bytes : ℕ → List ℕ → List ℕ
question_bytes migration items = flat_map command_bytes (questions migration items)

-- ---- who is asked

-- the switch that is asked about item n: its home, where the item has an operation
abbrev pub asked_home : Problem → Plan → ℕ → Option ℕ
asked_home p plan n = if operations p plan (item_at p n) == 0 then None else home_of p (item_at p n)

-- that of each item, by number
abbrev pub asked_homes : Problem → Plan → List (Option ℕ)
asked_homes p plan = list_below (item_count p) (asked_home p plan)

-- whether a switch is asked about an item
abbrev pub is_asked : List (Option ℕ) → ℕ → ℕ → Bool
is_asked homes switch item = is_switch switch (home_at homes item)

-- the items that a switch is asked about, from number 0 up, and whether there is one
abbrev pub items_at : List (Option ℕ) → ℕ → List ℕ
items_at homes switch = passing_below (length homes) (is_asked homes switch)

abbrev pub has_items : List (Option ℕ) → ℕ → Bool
has_items homes switch = nat_lt 0 (length (items_at homes switch))

-- of so many switches those that are asked about an item, from number 0 up
abbrev pub asked_switches : List (Option ℕ) → ℕ → List ℕ
asked_switches homes count = passing_below count (has_items homes)
