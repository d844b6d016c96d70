-- How far each item has come under a plan, by counts.
use Rattle.std.specs.Prelude.{◌≡◌, ℕ, ◌+◌, ◌<◌, ◌==◌, Bool, List, length, slice_index}
use Rattle.rollout_rules.specs.Wan.{Rollout}
use Rattle.rollout_rules.specs.Items.{item_count}
use Rattle.rollout_rules.specs.History.{History}
use Rattle.rollout_rules.specs.History as history
use Rattle.rollout_rules.specs.declared.op.Entry.{Entry}
use Rattle.rollout_rules.specs.declared.op.Entry.TheVariants.{Begin, Done}

-- how many operations of each item are settled, and how many were begun, by the item's number
pub record Counts : Type 0 where
  pub rollout : Rollout
  pub settled : List ℕ
  pub begun : List ℕ

-- whether an operation of item n flies, by the counts
abbrev pub flies_by : Counts → ℕ → Bool
flies_by c n = slice_index c.begun n == slice_index c.settled n + 1

-- the counts are those of a history
pub record AreCountsOf (c : Counts) (h : History) : Type 0 where
  pub all_settled : length c.settled ≡ item_count c.rollout.problem
  pub all_begun : length c.begun ≡ item_count c.rollout.problem
  pub settled : (n : ℕ) → n < item_count c.rollout.problem → slice_index c.settled n ≡ history.settled h n
  pub begun : (n : ℕ) → n < item_count c.rollout.problem → slice_index c.begun n ≡ history.begun h n

-- the entry's item exists, and fewer of its operations are counted than the entry's number
abbrev pub MayCount : Counts → Entry → Type 0
MayCount c (Begin op) = (op.item < item_count c.rollout.problem) × (slice_index c.begun op.item < op.number)
MayCount c (Done op) = (op.item < item_count c.rollout.problem) × (slice_index c.settled op.item < op.number)
