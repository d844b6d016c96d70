-- Where each item of a rollout stands, by how many of its operations are settled.
use Rattle.std.specs.Prelude.{◌≡◌, ℕ, ◌+◌, ◌<◌, List, length, slice_index, ◌==◌, if◌then◌else◌}
use Rattle.rollout_rules.specs.Wan.{Problem, Plan, Rollout}
use Rattle.rollout_rules.specs.Network.{IsNetwork}
use Rattle.rollout_rules.specs.Items.{item_count, item_at}
use Rattle.rollout_rules.specs.Operations.{stand_after}
use Rattle.rollout_rules.specs.declared.item.Item.{Item}
use Rattle.dependency_graph.specs.Index.{AreItems}
use Rattle.rollout_report.specs.Counts.{Counted}

-- how far the items of a rollout have come
pub record Coursed : Type 0 where
  pub rollout : Rollout
  pub counts : Counted

-- where an item stands once its operation in flight is applied, by its counts
abbrev pub next_stand : Problem → Plan → Item → ℕ → ℕ → ℕ
next_stand p plan i s b = stand_after p plan i (if b == s + 1 then s + 1 else s)

-- where item n stands, and where once its operation in flight is applied
abbrev pub here_of : Coursed → ℕ → ℕ
here_of c n = stand_after c.rollout.problem c.rollout.plan (item_at c.rollout.problem n) (slice_index c.counts.settled n)

abbrev pub next_of : Coursed → ℕ → ℕ
next_of c n = next_stand c.rollout.problem c.rollout.plan (item_at c.rollout.problem n) (slice_index c.counts.settled n) (slice_index c.counts.begun n)

-- the items, and the stage at which each of them stands
pub record IsCourse (c : Coursed) (rows : List Item) (stages : List ℕ) : Type 0 where
  pub network : IsNetwork c.rollout.problem
  pub all_settled : length c.counts.settled ≡ item_count c.rollout.problem
  pub all_begun : length c.counts.begun ≡ item_count c.rollout.problem
  pub items : AreItems c.rollout.problem (item_count c.rollout.problem) rows
  pub all_stands : length stages ≡ item_count c.rollout.problem
  pub stands : (n : ℕ) → n < item_count c.rollout.problem → slice_index stages n ≡ here_of c n
