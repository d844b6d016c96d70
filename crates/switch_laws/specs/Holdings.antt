-- What a switch holds of an item, after a history of a rollout and in its migration.
use Rattle.std.specs.Prelude.{◌≡◌, ◌⊎◌, ℕ, ◌<◌, ◌≤◌, true, List, Option, Some, slice_index}
use Rattle.rollout_rules.specs.Wan.{Rollout}
use Rattle.rollout_rules.specs.Items.{item_at, item_count}
use Rattle.rollout_rules.specs.Operations.{content_after, operations}
use Rattle.rollout_rules.specs.History.{History, begun, settled}
use Rattle.rollout_rules.specs.Agent.{Holding, is_at_most, pair_of}
use Rattle.rollout_laws.specs.Target.{target}
use Rattle.wan_edge.specs.Switches.{Holdings}
use Rattle.switch_ports.specs.Outboxes.{home_at}

-- It holds a pair of the migration, whose number is within these two, and the content that the operation of this number brought.
pub record IsMovedWithin (r : Rollout) (migration low high n : ℕ) (holding : Holding) : Type 0 where
  pub pair : holding.held.migration ≡ migration
  pub least : low ≤ holding.held.number
  pub most : holding.held.number ≤ high
  pub content : 0 < holding.held.number → holding.content ≡ content_after r.problem r.plan (item_at r.problem n) holding.held.number

-- It holds what an earlier migration left, and nothing is settled since the start.
pub record IsUntouched (migration : ℕ) (h : History) (n : ℕ) (holding : Holding) : Type 0 where
  pub earlier : holding.held.migration < migration
  pub none : settled h n ≡ slice_index h.start n

-- What a switch holds of item n: a pair of the migration between what is settled and what is begun, with its content, or what an
-- earlier migration left.
abbrev pub IsHeldAt : Rollout → ℕ → History → ℕ → Holding → Type 0
IsHeldAt r migration h n holding = IsMovedWithin r migration (settled h n) (begun h n) n holding ⊎ IsUntouched migration h n holding

-- so it is with each item whose home is this switch
abbrev pub AreHeldAt : Rollout → ℕ → List (Option ℕ) → ℕ → History → Holdings → Type 0
AreHeldAt r migration homes switch h holdings = (n : ℕ) → n < item_count r.problem → home_at homes n ≡ Some switch → IsHeldAt r migration h n (holdings n)

-- From before to now a switch has not gone back, and where it still holds what an earlier migration left, it holds what it held.
pub record HasGoneOn (migration : ℕ) (before now : Holding) : Type 0 where
  pub no_lower : is_at_most before.held now.held ≡ true
  pub left : now.held.migration < migration → now ≡ before

abbrev pub HaveGoneOn : Rollout → ℕ → List (Option ℕ) → ℕ → Holdings → Holdings → Type 0
HaveGoneOn r migration homes switch before now = (n : ℕ) → n < item_count r.problem → home_at homes n ≡ Some switch → HasGoneOn migration (before n) (now n)

-- how many operations item n has
abbrev pub operations_of : Rollout → ℕ → ℕ
operations_of r n = operations r.problem r.plan (item_at r.problem n)

-- It holds the pair of the last operation, and the content of the new split.
pub record IsMovedToTarget (r : Rollout) (migration n : ℕ) (holding : Holding) : Type 0 where
  pub pair : holding.held ≡ pair_of migration (operations_of r n)
  pub content : 0 < operations_of r n → holding.content ≡ target r.problem r.plan (item_at r.problem n)

-- It holds what an earlier migration left, and the item has no operation after the start.
pub record IsLeftAtTarget (r : Rollout) (migration : ℕ) (start : List ℕ) (n : ℕ) (holding : Holding) : Type 0 where
  pub earlier : holding.held.migration < migration
  pub none_left : operations_of r n ≡ slice_index start n

-- what a switch holds of item n at the end of a rollout
abbrev pub IsHeldAtEnd : Rollout → ℕ → List ℕ → ℕ → Holding → Type 0
IsHeldAtEnd r migration start n holding = IsMovedToTarget r migration n holding ⊎ IsLeftAtTarget r migration start n holding

abbrev pub AreHeldAtEnd : Rollout → ℕ → List (Option ℕ) → ℕ → List ℕ → Holdings → Type 0
AreHeldAtEnd r migration homes switch start holdings =
    (n : ℕ) → n < item_count r.problem → home_at homes n ≡ Some switch → IsHeldAtEnd r migration start n (holdings n)
