-- How far each item has come in a history, as lists by the items' numbers.
use Rattle.std.specs.Prelude.{◌≡◌, ℕ, ◌+◌, ◌<◌, List, length, slice_index, slice_index_or}
use Rattle.rollout_rules.specs.Wan.{Problem}
use Rattle.rollout_rules.specs.Items.{item_count}
use Rattle.rollout_rules.specs.History.{History, settled, begun}
use Rattle.rollout_rules.specs.declared.op.Entry.{Entry}
use Rattle.rollout_rules.specs.declared.op.Entry.TheVariants.{Begin, Done}

-- how many operations of each item are settled, and how many were begun
pub record Counted : Type 0 where
  pub settled : List ℕ
  pub begun : List ℕ

-- the lists have the counts of a history for the items that they have
pub record AreCounts (h : History) (c : Counted) : Type 0 where
  pub settled : (n : ℕ) → n < length c.settled → slice_index c.settled n ≡ settled h n
  pub begun : (n : ℕ) → n < length c.begun → slice_index c.begun n ≡ begun h n

-- they have those of all items of a problem
pub record AreCountsOf (p : Problem) (h : History) (c : Counted) : Type 0 where
  pub all_settled : length c.settled ≡ item_count p
  pub all_begun : length c.begun ≡ item_count p
  pub counts : AreCounts h c

-- no count of an item passes 64 bits
pub record IsShort (h : History) : Type 0 where
  pub fits : (n : ℕ) → slice_index h.start n + length h.entries < 18446744073709551616

-- the entry at a place, and the number of its item
abbrev pub entry_at : List Entry → ℕ → Entry
entry_at h k = slice_index_or h k (Begin (record { item = 0; number = 0 }))

abbrev pub item_of : Entry → ℕ
item_of (Begin op) = op.item
item_of (Done op) = op.item
