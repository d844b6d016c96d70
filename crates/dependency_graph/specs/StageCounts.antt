-- Where items stand, kept beside the counts.
use Rattle.std.specs.Prelude.{◌≡◌, ℕ, ◌+◌, ◌<◌, ◌≤◌, ◌^◌, List, length, slice_index, ◌==◌}
use Rattle.rollout_rules.specs.Sums.{count_below, least_below}
use Rattle.rollout_rules.specs.Wan.{Rollout, last_stage}
use Rattle.rollout_rules.specs.Network.{IsNetwork}
use Rattle.rollout_rules.specs.Items.{item_count, item_at}
use Rattle.rollout_rules.specs.Operations.{stand_after}

-- the last stage that there is, and the stage at which each item stands
pub record ItemStages : Type 0 where
  pub last : ℕ
  pub stages : List ℕ

-- how many of the first n items stand at stage s
abbrev pub standing : List ℕ → ℕ → ℕ → ℕ
standing stages n s = count_below n (λ k. slice_index stages k == s)

-- each of the first n items stands at a stage that there is, and each stage has the number of those that stand there
pub record AreStageCounts (last : ℕ) (stages : List ℕ) (n : ℕ) (counts : List ℕ) : Type 0 where
  pub all : length counts ≡ last + 1
  pub each : (s : ℕ) → s ≤ last → slice_index counts s ≡ standing stages n s

pub record AreItemStages (last : ℕ) (stages counts : List ℕ) : Type 0 where
  pub few : length stages < 2 ^ 32
  pub within : (k : ℕ) → k < length stages → slice_index stages k ≤ last
  pub standings : AreStageCounts last stages (length stages) counts

-- the number is the least stage at which an item stands, or the last stage where there is no item
abbrev pub IsLeast : ℕ → ItemStages → Type 0
IsLeast least at = least ≡ least_below (length at.stages) at.last (slice_index at.stages)

-- the first n items stand where so many operations of each being settled takes it
pub record AreStands (r : Rollout) (settled stands : List ℕ) (n : ℕ) : Type 0 where
  pub count : length stands ≡ n
  pub each : (k : ℕ) → k < n → slice_index stands k ≡ stand_after r.problem r.plan (item_at r.problem k) (slice_index settled k)

-- of as many stages as there are items the first n are those where the items stand, and the last stage is the plan's
pub record AreRestood (r : Rollout) (settled : List ℕ) (n : ℕ) (at : ItemStages) : Type 0 where
  pub count : length at.stages ≡ item_count r.problem
  pub last : at.last ≡ last_stage r.plan
  pub each : (k : ℕ) → k < n → slice_index at.stages k ≡ stand_after r.problem r.plan (item_at r.problem k) (slice_index settled k)

-- there is a count of each kind and a stage for each item
pub record IsProgress (r : Rollout) (done started : List ℕ) (at : ItemStages) : Type 0 where
  pub network : IsNetwork r.problem
  pub settled : length done ≡ item_count r.problem
  pub begun : length started ≡ item_count r.problem
  pub stands : AreStands r done at.stages (item_count r.problem)
  pub last : at.last ≡ last_stage r.plan
