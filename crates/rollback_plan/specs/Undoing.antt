-- A rollout that is taken back operation by operation: of each item so many are left, and those between are on their way back.
use Rattle.std.specs.Prelude.{◌≡◌, ℕ, ◌-◌, ◌<◌, ◌≤◌, Bool, true, false, ◌&&◌, ◌||◌, ◌==◌, nat_le, nat_lt, List, [], ◌∷◌, ◌++◌, slice_index, if◌then◌else◌, IsTrue}
use Rattle.rollout_rules.specs.Wan.{Problem}
use Rattle.rollout_rules.specs.Items.{item_count}
use Rattle.rollout_rules.specs.History.{History, begun, started, with_entries}
use Rattle.rollout_rules.specs.declared.op.Op.{Op}
use Rattle.rollout_rules.specs.declared.op.Entry.{Entry}
use Rattle.rollout_rules.specs.declared.op.Entry.TheVariants.{Begin, Done}
use Rattle.rollout_laws.specs.Good.{AreHeldWithin}

-- whether each operation that these entries begin is back, where at most so many of each item are left
abbrev pub are_back : (ℕ → ℕ) → List Entry → Bool
are_back most [] = true
are_back most (Begin op ∷ es) = nat_lt (most op.item) op.number && are_back most es
are_back most (Done op ∷ es) = are_back most es

-- An operation may be taken back once each one that was begun after its Done is back.
abbrev pub may_go_back : (ℕ → ℕ) → List Entry → Op → Bool
may_go_back most [] op = false
may_go_back most (Begin other ∷ es) op = may_go_back most es op
may_go_back most (Done other ∷ es) op = if (other.item == op.item) && (other.number == op.number) then are_back most es else may_go_back most es op

-- whether so it was of all that are taken back, of which at least so many of each item are left, and at most so many
abbrev pub goes_back : (ℕ → ℕ) → (ℕ → ℕ) → List Entry → Bool
goes_back least most [] = true
goes_back least most (Begin op ∷ es) = goes_back least most es
goes_back least most (Done op ∷ es) = (nat_le op.number (least op.item) || are_back most es) && goes_back least most es

-- A history is taken back so far, down to its start at the most: each operation of it that is back, or on its way there, when it might be.
pub record GoesBack (p : Problem) (h : History) (least most : ℕ → ℕ) : Type 0 where
  pub start : (n : ℕ) → n < item_count p → slice_index h.start n ≤ least n
  pub between : (n : ℕ) → n < item_count p → least n ≤ most n
  pub begun_most : (n : ℕ) → n < item_count p → most n ≤ begun h n
  pub each : IsTrue (goes_back least most h.entries)

-- one operation less is left for certain: it is on its way back
abbrev pub without : Op → (ℕ → ℕ) → ℕ → ℕ
without op least n = if n == op.item then op.number - 1 else least n

-- Where so many of each item are left, one of these operations may be taken back: the last one of its item, and none of the start.
pub record SomeGoesBack (h : History) (left : ℕ → ℕ) : Type 0 where
  pub op : Op
  pub last : op.number ≡ left op.item
  pub past : slice_index h.start op.item < op.number
  pub may : IsTrue (may_go_back left h.entries op)

-- So much of each item is what a list of the way there allows: no less than it has settled, and no more than it has begun.
pub record IsOfTheWay (p : Problem) (h : History) (held : ℕ → ℕ) : Type 0 where
  pub front : List Entry
  pub rest : List Entry
  pub is : front ++ rest ≡ h.entries
  pub within : AreHeldWithin p (with_entries (started h.start) front) held
