-- The parts of needs and of room, each a loop's.
use Rattle.std.specs.Prelude.{ℕ, ◌+◌, Bool, ◌||◌, List, ◌==◌}
use Rattle.rollout_rules.specs.Sums.{least_below}
use Rattle.rollout_rules.specs.Wan.{Problem, Plan, Rollout, rate_at, last_stage}
use Rattle.rollout_rules.specs.Items.{item_count}
use Rattle.rollout_rules.specs.History.{Places}
use Rattle.rollout_rules.specs.Needs.{installed_since, entries_past}
use Rattle.rollout_rules.specs.declared.op.Entry.{Entry}
use Rattle.dependency_graph.specs.Progress.{Counts}
use Rattle.dependency_graph.specs.Ahead.{stand_with}

-- whether tunnel t carries nothing at the stage after s, or each of its entries stands where it is installed for that
abbrev pub carrier_stands : Problem → Plan → Places → ℕ → ℕ → Bool
carrier_stands p plan at t s = (rate_at plan (s + 1) t == 0) || entries_past p plan at t (installed_since plan t (s + 1))

-- the least stage at which an item stands, over the items' numbers
abbrev pub least_stand : Rollout → Counts → List Entry → ℕ
least_stand r c ahead = least_below (item_count r.problem) (last_stage r.plan) (stand_with r c ahead)
