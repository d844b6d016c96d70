-- The start of a takeover: of each item the number that its home holds of the migration that is taken over. What is held of an earlier one, or of no item,
-- is no part of it.
use Rattle.std.specs.Prelude.{◌≡◌, ℕ, ◌<◌, ◌≤◌, ◌==◌, List, Option, Some, None, IfSome, option_map, Result, Ok, Err, if◌then◌else◌}
use Rattle.rollout_rules.specs.Agent.{pair_of}
use Rattle.rollout_rules.specs.Items.{item_count}
use Rattle.rollout_rules.specs.Sums.{list_below}
use Rattle.rollout_rules.specs.Wan.{Plan, Problem}
use Rattle.rollout_rules.specs.declared.held.Held.{Held}
use Rattle.held_service.specs.HeldText.{operations_of}
use Rattle.held_service.specs.Noting.{Notes, noted_at}
use Rattle.fence_takeover.specs.declared.end.FenceEnd.{FenceEnd}
use Rattle.fence_takeover.specs.declared.end.FenceEnd.TheVariants as fence

-- how many operations of the migration a pair says to be carried out
abbrev pub number_in : ℕ → Option Held → ℕ
number_in migration None = 0
number_in migration (Some held) = if held.migration == migration then held.number else 0

abbrev pub taken_start : Problem → ℕ → Notes → List ℕ
taken_start p migration notes = list_below (item_count p) (λ n. number_in migration (noted_at notes n))

-- a pair that may be taken over: it is of no later migration, and of this one it has no more operations than there are
abbrev pub MayBeTaken : ℕ → ℕ → Option Held → Type 0
MayBeTaken migration count noted = IfSome noted (λ held. (held.migration ≤ migration) × (held.migration ≡ migration → held.number ≤ count))

-- a number of operations above those that an item has
pub record IsAbove (migration count : ℕ) (noted : Option Held) (held told : ℕ) : Type 0 where
  pub noted_is : noted ≡ Some (pair_of migration held)
  pub count_is : told ≡ count
  pub above : count < held

-- a pair of a later migration
pub record IsLater (migration : ℕ) (noted : Option Held) (found : ℕ) : Type 0 where
  pub found_is : option_map (λ (held : Held). held.migration) noted ≡ Some found
  pub later : migration < found

-- why the pair that is noted of an item, which has so many operations, can't be taken over
abbrev pub IsRefused : ℕ → ℕ → ℕ → Option Held → FenceEnd → Type 0
IsRefused migration item count noted (fence.NoPort w) = ⊥
IsRefused migration item count noted (fence.Port w) = ⊥
IsRefused migration item count noted (fence.Above i held told) = (i ≡ item) × IsAbove migration count noted held told
IsRefused migration item count noted (fence.Later i found) = (i ≡ item) × IsLater migration noted found
IsRefused migration item count noted (fence.NotMine w i) = ⊥
IsRefused migration item count noted (fence.NoAnswer w byte) = ⊥
IsRefused migration item count noted (fence.Spent rounds i) = ⊥
IsRefused migration item count noted fence.Memory = ⊥

-- what comes of the pair of one item
abbrev pub TakesOne : ℕ → ℕ → ℕ → Option Held → Result ℕ FenceEnd → Type 0
TakesOne migration item count noted (Ok number) = (number ≡ number_in migration noted) × MayBeTaken migration count noted
TakesOne migration item count noted (Err end) = IsRefused migration item count noted end

-- The start is that of the notes, and each pair of them may be taken over.
pub record IsTaken (p : Problem) (plan : Plan) (migration : ℕ) (notes : Notes) (start : List ℕ) : Type 0 where
  pub start_is : start ≡ taken_start p migration notes
  pub each : (n : ℕ) → n < item_count p → MayBeTaken migration (operations_of p plan n) (noted_at notes n)

-- One of the pairs can't be.
pub record IsUntaken (p : Problem) (plan : Plan) (migration : ℕ) (notes : Notes) (end : FenceEnd) : Type 0 where
  pub item : ℕ
  pub inside : item < item_count p
  pub refused : IsRefused migration item (operations_of p plan item) (noted_at notes item) end
