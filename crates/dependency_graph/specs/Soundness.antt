-- What a start breaks first, by the counts of the history that begins there.
use Rattle.std.specs.Prelude.{◌≡◌, ℕ, ◌-◌, ◌≤◌, Bool, not, ◌&&◌, ◌||◌, ◌⊎◌, [], slice_index, Result, Ok, Err, IsTrue, nat_le}
use Rattle.rollout_rules.specs.Sums.{all_below}
use Rattle.rollout_rules.specs.Wan.{Rollout, last_stage}
use Rattle.rollout_rules.specs.Items.{item_count, capacity_of}
use Rattle.rollout_rules.specs.Operations.{changes_behind}
use Rattle.rollout_rules.specs.Needs.{needs_met_at}
use Rattle.rollout_rules.specs.Room.{room, fits}
use Rattle.rollout_rules.specs.declared.item.Item.{Item}
use Rattle.dependency_graph.specs.Progress.{Counts}
use Rattle.dependency_graph.specs.Ahead.{places_with}
use Rattle.dependency_graph.specs.Graph.{count_of}
use Rattle.dependency_graph.specs.Cells.{resource_count, resource_at}
use Rattle.dependency_graph.specs.FirstFault.{FailsFirst, had_needs_behind, has_room_at, has_room_for, spot_at}
use Rattle.dependency_graph.specs.declared.start_fault.StartFault.{StartFault}
use Rattle.dependency_graph.specs.declared.start_fault.StartFault.TheVariants as fault

-- no more operations of an item are settled than it has
abbrev pub has_settled : Rollout → Counts → ℕ → Bool
has_settled r c n = nat_le (slice_index c.settled n) (count_of r n)

abbrev pub all_exist : Rollout → Counts → Bool
all_exist r c = all_below (item_count r.problem) (has_settled r c)

-- the needs of each of these are met
abbrev pub had_its_needs : Rollout → Counts → ℕ → Bool
had_its_needs r c n = all_below (slice_index c.settled n) (had_needs_behind r.problem r.plan (places_with r c []) n)

-- the same of the operation that takes it from a stage to the next, if there is one
abbrev pub had_needs_at : Rollout → Counts → Item → ℕ → Bool
had_needs_at r c i s = not (changes_behind r.problem r.plan i s) || needs_met_at r.problem r.plan (places_with r c []) i s

abbrev pub all_had_their_needs : Rollout → Counts → Bool
all_had_their_needs r c = all_below (item_count r.problem) (had_its_needs r c)

-- all three tests of a start, and the two after the first
abbrev pub is_sound : Rollout → Counts → Bool
is_sound r c = all_exist r c && all_had_their_needs r c && fits r.problem r.plan (places_with r c [])

abbrev pub had_needs_and_fit : Rollout → Counts → Bool
had_needs_and_fit r c = all_had_their_needs r c && fits r.problem r.plan (places_with r c [])

-- operation j is the first settled one of item n without its needs
pub record LacksOperation (r : Rollout) (c : Counts) (n j : ℕ) : Type 0 where
  pub number : 1 ≤ j
  pub first : FailsFirst (slice_index c.settled n) (had_needs_behind r.problem r.plan (places_with r c []) n) (j - 1)

-- and no item before it has one
pub record LacksFirst (r : Rollout) (c : Counts) (n j : ℕ) : Type 0 where
  pub item : FailsFirst (item_count r.problem) (had_its_needs r c) n
  pub operation : LacksOperation r c n j

-- what is told of an item, an operation and a resource
abbrev pub above_fault : Rollout → Counts → ℕ → StartFault
above_fault r c n = fault.Above n (slice_index c.settled n) (count_of r n)

abbrev pub need_fault : ℕ → ℕ → StartFault
need_fault n j = fault.Need n j

abbrev pub room_fault : Rollout → Counts → ℕ → ℕ → StartFault
room_fault r c s q =
    fault.Room s (spot_at r.problem q) (room r.problem r.plan (places_with r c []) s (resource_at r.problem q))
    (capacity_of r.problem r.plan (resource_at r.problem q))

-- A fault is of the first item of which too much is settled; of the first operation without its needs; of the first
-- resource without room.
pub record IsOfItem (r : Rollout) (c : Counts) (f : StartFault) : Type 0 where
  pub number : ℕ
  pub is : f ≡ above_fault r c number
  pub first : FailsFirst (item_count r.problem) (has_settled r c) number

pub record IsOfNeed (r : Rollout) (c : Counts) (f : StartFault) : Type 0 where
  pub number : ℕ
  pub operation : ℕ
  pub is : f ≡ need_fault number operation
  pub first : LacksFirst r c number operation

pub record IsOfRoom (r : Rollout) (c : Counts) (f : StartFault) : Type 0 where
  pub at : ℕ
  pub number : ℕ
  pub is : f ≡ room_fault r c at number
  pub stage : FailsFirst (last_stage r.plan) (has_room_at r.problem r.plan (places_with r c [])) at
  pub resource : FailsFirst (resource_count r.problem) (has_room_for r.problem r.plan (places_with r c []) at) number

-- where all that is settled exists, and where it had its needs, too
abbrev pub IsOfPlaces : Rollout → Counts → StartFault → Type 0
IsOfPlaces r c f = IsOfNeed r c f ⊎ (IsTrue (all_had_their_needs r c) × IsOfRoom r c f)

-- what a start breaks first
abbrev pub IsFirst : Rollout → Counts → StartFault → Type 0
IsFirst r c f = IsOfItem r c f ⊎ (IsTrue (all_exist r c) × IsOfPlaces r c f)

-- what is answered of a start
abbrev pub IsVerdict : {A : Type 0} → Result A StartFault → Rollout → Counts → Type 0
IsVerdict (Ok a) r c = IsTrue (is_sound r c)
IsVerdict (Err f) r c = IsFirst r c f
