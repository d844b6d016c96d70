-- What a start breaks first: in this order an item of which more operations are settled than it has, a settled operation
-- without its needs, and a resource of which more is taken than there is.
use Rattle.std.specs.Prelude.{◌≡◌, ℕ, ◌-◌, ◌<◌, ◌≤◌, Bool, true, false, ◌||◌, length, Result, Ok, Err, IsTrue, nat_le, nat_lt, if◌then◌else◌}
use Rattle.rollout_rules.specs.Sums.{all_below}
use Rattle.rollout_rules.specs.Wan.{Problem, Plan, last_stage}
use Rattle.rollout_rules.specs.Items.{item_count, item_at, all_items, capacity_of}
use Rattle.rollout_rules.specs.Operations.{operations, stand_after}
use Rattle.rollout_rules.specs.History.{Places}
use Rattle.rollout_rules.specs.Needs.{needs_met_at}
use Rattle.rollout_rules.specs.Room.{least_stage, room, fits_at}
use Rattle.rollout_rules.specs.Legal.{has_settled, had_its_needs}
use Rattle.rollout_rules.specs.declared.item.Spot.{Spot}
use Rattle.rollout_rules.specs.declared.item.Spot.TheVariants as spot
use Rattle.dependency_graph.specs.Cells.{resource_count, resource_at}
use Rattle.dependency_graph.specs.declared.start_fault.StartFault.{StartFault}
use Rattle.dependency_graph.specs.declared.start_fault.StartFault.TheVariants as fault

-- k is the first number below n that fails the test
pub record FailsFirst (n : ℕ) (test : ℕ → Bool) (k : ℕ) : Type 0 where
  pub there : k < n
  pub fails : test k ≡ false
  pub before : all_below k test ≡ true

-- whether the needs of the operation after j of an item's operations were met
abbrev pub had_needs_behind : Problem → Plan → Places → ℕ → ℕ → Bool
had_needs_behind p plan at n j = needs_met_at p plan at (item_at p n) (stand_after p plan (item_at p n) j)

-- whether all resources fit at a stage, as they must from the least one on, and whether one of them does, by its number
abbrev pub has_room_at : Problem → Plan → Places → ℕ → Bool
has_room_at p plan at s = nat_lt s (least_stage p plan at) || fits_at p plan at s

abbrev pub has_room_for : Problem → Plan → Places → ℕ → ℕ → Bool
has_room_for p plan at s q = nat_le (room p plan at s (resource_at p q)) (capacity_of p plan (resource_at p q))

-- what is said of the resource with a number
abbrev pub spot_at : Problem → ℕ → Spot
spot_at p q = if nat_lt q (length p.links) then spot.Link q else spot.Table (q - length p.links)

-- Item n is the first of which more operations are settled than it has.
pub record IsAbove (p : Problem) (plan : Plan) (at : Places) (n held count : ℕ) : Type 0 where
  pub item : FailsFirst (item_count p) (λ m. has_settled p plan at (item_at p m)) n
  pub settled : held ≡ at.settled (item_at p n)
  pub has : count ≡ operations p plan (item_at p n)

-- What is settled exists. Item n is the first of which a settled operation lacks its needs, and operation j is its first.
pub record LacksNeeds (p : Problem) (plan : Plan) (at : Places) (n j : ℕ) : Type 0 where
  pub exists : IsTrue (all_items p (has_settled p plan at))
  pub item : FailsFirst (item_count p) (λ m. had_its_needs p plan at (item_at p m)) n
  pub number : 1 ≤ j
  pub operation : FailsFirst (at.settled (item_at p n)) (had_needs_behind p plan at n) (j - 1)

-- What is settled exists and had its needs. Stage s is the first at which something doesn't fit, and what is told of is the
-- first there of which more is taken than there is, the links in order and then the tables.
pub record LacksRoom (p : Problem) (plan : Plan) (at : Places) (s : ℕ) (here : Spot) (found wanted : ℕ) : Type 0 where
  pub exists : IsTrue (all_items p (has_settled p plan at))
  pub needs : IsTrue (all_items p (had_its_needs p plan at))
  pub stage : FailsFirst (last_stage plan) (has_room_at p plan at) s
  pub number : ℕ
  pub resource : FailsFirst (resource_count p) (has_room_for p plan at s) number
  pub spot : here ≡ spot_at p number
  pub taken : found ≡ room p plan at s (resource_at p number)
  pub there : wanted ≡ capacity_of p plan (resource_at p number)

-- Lack of memory says nothing.
abbrev pub IsFirstFault : Problem → Plan → Places → StartFault → Type 0
IsFirstFault p plan at (fault.Above item held count) = IsAbove p plan at item held count
IsFirstFault p plan at (fault.Need item number) = LacksNeeds p plan at item number
IsFirstFault p plan at (fault.Room stage here found wanted) = LacksRoom p plan at stage here found wanted
IsFirstFault p plan at fault.Memory = Unit {0}

-- whether the start is sound
abbrev pub TellsSound : {A : Type 0} → Result A StartFault → Bool → Type 0
TellsSound (Ok a) sound = sound ≡ true
TellsSound (Err (fault.Above item held count)) sound = sound ≡ false
TellsSound (Err (fault.Need item number)) sound = sound ≡ false
TellsSound (Err (fault.Room stage here found wanted)) sound = sound ≡ false
TellsSound (Err fault.Memory) sound = Unit {0}
