-- Cells of rooms: how much is taken of each resource at each stage, and what an item's step changes of it.
use Rattle.std.specs.Prelude.{◌≡◌, ℕ, ◌+◌, ◌-◌, ◌*◌, ◌<◌, ◌≤◌, Bool, true, false, ◌&&◌, ◌||◌, List, length, slice_index, nat_le, nat_lt, ◌==◌, if◌then◌else◌}
use Rattle.std.specs.List.{list_any}
use Rattle.rollout_rules.specs.Sums.{sum_below, all_below}
use Rattle.rollout_rules.specs.Wan.{Problem, Rollout, last_stage, switch_of, width_of}
use Rattle.rollout_rules.specs.Items.{Resource, the_link, the_table, is_resource, capacity_of, takes, use_at, step_maximum}
use Rattle.rollout_rules.specs.History.{Places}
use Rattle.rollout_rules.specs.Room.{least_stage, room}
use Rattle.rollout_rules.specs.declared.item.Item.{Item}

-- The resources are the links in order, then the switches' tables.
abbrev pub resource_count : Problem → ℕ
resource_count p = length p.links + length p.switches

abbrev pub resource_at : Problem → ℕ → Resource
resource_at p q = if nat_lt q (length p.links) then the_link q else the_table (q - length p.links)

abbrev pub resource_number : Problem → Resource → ℕ
resource_number p (the_link l) = l
resource_number p (the_table w) = length p.links + w

-- the cells of one resource after those of another, each resource's by stage
pub record Cells : Type 0 where
  pub stages : ℕ
  pub cells : List ℕ

abbrev pub cell : Cells → ℕ → ℕ → ℕ
cell t q s = slice_index t.cells (q * t.stages + s)

-- there is a cell for each resource at each stage but the last
pub record AreCells (r : Rollout) (t : Cells) : Type 0 where
  pub stages : t.stages ≡ last_stage r.plan
  pub all : length t.cells ≡ resource_count r.problem * last_stage r.plan

-- there is a cell for each resource at each stage but the last, and from the least stage at which an item stands on they
-- have the rooms
pub record AreRooms (r : Rollout) (at : Places) (t : Cells) : Type 0 where
  pub stages : t.stages ≡ last_stage r.plan
  pub all : length t.cells ≡ resource_count r.problem * last_stage r.plan
  pub each : (u : Resource) → is_resource r.problem u ≡ true → (s : ℕ) → least_stage r.problem r.plan at ≤ s → s < last_stage r.plan
      → cell t (resource_number r.problem u) s ≡ room r.problem r.plan at s u

-- the cells of the first n resources have the rooms from stage low on, and those of the one after up to another stage
pub record AreFilled (r : Rollout) (at : Places) (low n high : ℕ) (t : Cells) : Type 0 where
  pub cells : AreCells r t
  pub rows : (q s : ℕ) → q < n → low ≤ s → s < last_stage r.plan → cell t q s ≡ room r.problem r.plan at s (resource_at r.problem q)
  pub row : (s : ℕ) → low ≤ s → s < high → cell t n s ≡ room r.problem r.plan at s (resource_at r.problem n)

-- a number at the stages from one on and before another, and 0 at the others
abbrev pub between : ℕ → ℕ → ℕ → ℕ → ℕ
between low high s n = if nat_le low s && nat_lt s high then n else 0

-- the cells are raised at those stages, each resource's by its amount
pub record AreRaised (low high : ℕ) (amount : ℕ → ℕ) (old later : Cells) : Type 0 where
  pub stages : later.stages ≡ old.stages
  pub all : length later.cells ≡ length old.cells
  pub each : (q s : ℕ) → s < old.stages → q * old.stages + s < length old.cells → cell later q s ≡ cell old q s + between low high s (amount q)

-- an amount at one resource, and at the first n of a row
abbrev pub only : ℕ → ℕ → ℕ → ℕ
only q n k = if q == k then n else 0

abbrev pub among : List ℕ → (ℕ → ℕ) → ℕ → ℕ → ℕ
among row amount n k = sum_below n (λ j. only (slice_index row j) (amount (slice_index row j)) k)

-- what an item's step from stage x on takes of a resource more than its content there, and more than that of the next stage
abbrev pub rise : Rollout → Item → ℕ → Resource → ℕ
rise r i x u = step_maximum r.problem r.plan x i u - use_at r.problem r.plan x i u

abbrev pub fall : Rollout → Item → ℕ → Resource → ℕ
fall r i x u = step_maximum r.problem r.plan x i u - use_at r.problem r.plan (x + 1) i u

-- the same by the resources' numbers
abbrev pub rises : Rollout → Item → ℕ → ℕ → ℕ
rises r i x q = rise r i x (resource_at r.problem q)

abbrev pub falls : Rollout → Item → ℕ → ℕ → ℕ
falls r i x q = fall r i x (resource_at r.problem q)

-- the width of tunnel t, where its h-th entry is in the table of switch w
abbrev pub width_in : Problem → ℕ → ℕ → ℕ → ℕ
width_in p t h w = if switch_of p t h == w then width_of p t else 0

-- whether a row has a number
abbrev pub has : List ℕ → ℕ → Bool
has row q = list_any (λ k. k == q) row

-- no two places of a row have the same number
abbrev pub AreOnce : List ℕ → Type 0
AreOnce row = (a b : ℕ) → a < length row → b < length row → slice_index row a ≡ slice_index row b → a ≡ b

-- an item takes nothing of a resource, whatever the rates and marks
abbrev pub TakesNothing : Problem → Item → Resource → Type 0
TakesNothing p i u = (rate : ℕ → ℕ) (there : ℕ → ℕ → Bool) → takes p rate there i u ≡ 0

-- the row has, each once, resources with all that the item takes of
pub record AreTouched (p : Problem) (i : Item) (row : List ℕ) : Type 0 where
  pub inside : (k : ℕ) → k < length row → slice_index row k < resource_count p
  pub once : AreOnce row
  pub rest : (u : Resource) → is_resource p u ≡ true → has row (resource_number p u) ≡ false → TakesNothing p i u

-- whether a resource has room for the amount at the stages from one on and before another
abbrev pub cell_holds : Rollout → Cells → ℕ → ℕ → ℕ → ℕ → Bool
cell_holds r t low q n s = nat_lt s low || nat_le (cell t q s + n) (capacity_of r.problem r.plan (resource_at r.problem q))

abbrev pub row_holds : Rollout → Cells → ℕ → ℕ → (ℕ → ℕ) → List ℕ → Bool
row_holds r t low high amount row =
    all_below (length row) (λ k. all_below high (cell_holds r t low (slice_index row k) (amount (slice_index row k))))
