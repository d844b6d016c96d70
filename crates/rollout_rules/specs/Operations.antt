-- The operations of an item, and where it stands once some of them are settled.
use Rattle.std.specs.Prelude.{ℕ, zero, suc, ◌+◌, Bool, not, List, nat_le, if◌then◌else◌}
use Rattle.rollout_rules.specs.Sums.{count_below, last_to, same_numbers}
use Rattle.rollout_rules.specs.Wan.{Problem, Plan, last_stage}
use Rattle.rollout_rules.specs.Items.{content}
use Rattle.rollout_rules.specs.declared.item.Item.{Item}

-- whether stage s + 1 is a change point of the item: its content there differs from that of the stage before
abbrev pub changes_behind : Problem → Plan → Item → ℕ → Bool
changes_behind p plan i s = not (same_numbers (content p plan i s) (content p plan i (s + 1)))

-- how many change points the item has up to stage s
abbrev pub changes_to : Problem → Plan → Item → ℕ → ℕ
changes_to p plan i s = count_below s (changes_behind p plan i)

-- An item has an operation for each change point; the j-th takes it to its j-th change point.
abbrev pub operations : Problem → Plan → Item → ℕ
operations p plan i = changes_to p plan i (last_stage plan)

-- Where an item stands with j operations settled: at the stage before its next change point, or at the last stage.
-- That is the last stage with at most j change points up to it.
abbrev pub stand_after : Problem → Plan → Item → ℕ → ℕ
stand_after p plan i j = last_to (last_stage plan) (λ s. nat_le (changes_to p plan i s) j)

-- what an item holds once j operations are settled
abbrev pub content_after : Problem → Plan → Item → ℕ → List ℕ
content_after p plan i j = content p plan i (stand_after p plan i j)

-- The first stage of the run of stages that pass the test and that holds stage s.
abbrev pub run_start : (ℕ → Bool) → ℕ → ℕ
run_start test zero = 0
run_start test (suc s) = if test s then run_start test s else s + 1
