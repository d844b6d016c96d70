-- A history is a list of operations begun and done, the oldest first, after a start.
use Rattle.std.specs.Prelude.{ℕ, ◌+◌, Bool, List, [], ◌∷◌, ◌++◌, slice_index, ◌==◌, if◌then◌else◌}
use Rattle.rollout_rules.specs.Sums.{list_below}
use Rattle.rollout_rules.specs.Wan.{Problem, Plan}
use Rattle.rollout_rules.specs.Items.{item_count, number_of}
use Rattle.rollout_rules.specs.Operations.{stand_after}
use Rattle.rollout_rules.specs.declared.item.Item.{Item}
use Rattle.rollout_rules.specs.declared.op.Entry.{Entry}
use Rattle.rollout_rules.specs.declared.op.Entry.TheVariants.{Begin, Done}

-- A start says of each item, by its number, how many of its operations were settled before the first entry; 0 where it
-- says nothing.
pub record History : Type 0 where
  pub start : List ℕ
  pub entries : List Entry

-- a start alone, and a history with further entries
abbrev pub started : List ℕ → History
started start = record { start = start; entries = [] }

abbrev pub with_entries : History → List Entry → History
with_entries h es = record { start = h.start; entries = h.entries ++ es }

-- the start at which nothing is settled, and the history that begins there
abbrev pub no_start : Problem → List ℕ
no_start p = list_below (item_count p) (λ n. 0)

abbrev pub from_nothing : Problem → List Entry → History
from_nothing p es = record { start = no_start p; entries = es }

-- how many entries begin an operation of the item with this number
abbrev pub begins_in : List Entry → ℕ → ℕ
begins_in [] n = 0
begins_in (Begin op ∷ es) n = (if op.item == n then 1 else 0) + begins_in es n
begins_in (Done op ∷ es) n = begins_in es n

-- how many say that one is done
abbrev pub dones_in : List Entry → ℕ → ℕ
dones_in [] n = 0
dones_in (Begin op ∷ es) n = dones_in es n
dones_in (Done op ∷ es) n = (if op.item == n then 1 else 0) + dones_in es n

-- how many operations of an item were begun, those of the start among them
abbrev pub begun : History → ℕ → ℕ
begun h n = slice_index h.start n + begins_in h.entries n

-- how many are settled, that is, done
abbrev pub settled : History → ℕ → ℕ
settled h n = slice_index h.start n + dones_in h.entries n

-- whether an operation of the item is in flight
abbrev pub flies : History → ℕ → Bool
flies h n = begun h n == settled h n + 1

-- How far each item has come: what is settled, and whether the next operation is in flight. Needs, room and safety
-- look at these alone.
pub record Places : Type 0 where
  pub settled : Item → ℕ
  pub flies : Item → Bool

abbrev pub places_of : Problem → History → Places
places_of p h = record { settled = λ i. settled h (number_of p i); flies = λ i. flies h (number_of p i) }

-- the stage at which an item stands
abbrev pub stand : Problem → Plan → Places → Item → ℕ
stand p plan at i = stand_after p plan i (at.settled i)
