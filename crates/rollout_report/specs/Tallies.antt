-- What the code of a report counts, over the first items.
use Rattle.std.specs.Prelude.{◌≡◌, ℕ, zero, suc, ◌+◌, ◌<◌, Bool, ◌&&◌, List, [], ◌++◌, length, slice_index, nat_lt, if◌then◌else◌}
use Rattle.rollout_rules.specs.Sums.{count_below}
use Rattle.rollout_rules.specs.Wan.{Problem, Plan, last_stage}
use Rattle.rollout_rules.specs.Items.{item_at}
use Rattle.rollout_rules.specs.Operations.{changes_behind, changes_to}
use Rattle.rollout_rules.specs.declared.item.Item.{Item}
use Rattle.rollout_report.specs.Report.{stage_line}

-- of each stage but the first: how many operations to it there are, and how many of them are settled
pub record StageLists : Type 0 where
  pub all : List ℕ
  pub settled : List ℕ

-- whether more operations of an item are settled than its change points up to stage s, and it has one after
abbrev pub settles_to : Problem → Plan → Item → ℕ → ℕ → Bool
settles_to p plan i settled s = changes_behind p plan i s && nat_lt (changes_to p plan i s) settled

-- these are the counts of the first n items, by how many operations of each are settled
pub record AreStageCounts (p : Problem) (plan : Plan) (counts : List ℕ) (n : ℕ) (stages : StageLists) : Type 0 where
  pub all_stages : length stages.all ≡ last_stage plan
  pub settled_stages : length stages.settled ≡ last_stage plan
  pub all : (s : ℕ) → s < last_stage plan → slice_index stages.all s ≡ count_below n (λ k. changes_behind p plan (item_at p k) s)
  pub settled : (s : ℕ) → s < last_stage plan → slice_index stages.settled s ≡ count_below n (λ k. settles_to p plan (item_at p k) (slice_index counts k) s)

-- one item more is counted, at the first m stages
pub record IsCounted (p : Problem) (plan : Plan) (i : Item) (done m : ℕ) (before after : StageLists) : Type 0 where
  pub all_stages : length after.all ≡ length before.all
  pub settled_stages : length after.settled ≡ length before.settled
  pub all : (s : ℕ) → s < m → slice_index after.all s ≡ slice_index before.all s + (if changes_behind p plan i s then 1 else 0)
  pub settled : (s : ℕ) → s < m → slice_index after.settled s ≡ slice_index before.settled s + (if settles_to p plan i done s then 1 else 0)
  pub all_rest : (s : ℕ) → (s < m → ⊥) → slice_index after.all s ≡ slice_index before.all s
  pub settled_rest : (s : ℕ) → (s < m → ⊥) → slice_index after.settled s ≡ slice_index before.settled s

-- the lines of the first so many stages by these counts
abbrev pub lines_of : StageLists → ℕ → List ℕ
lines_of stages zero = []
lines_of stages (suc s) = lines_of stages s ++ stage_line s (slice_index stages.settled s) (slice_index stages.all s)
