-- The text of a report: how far a rollout has come in all and stage by stage, and the lines after its history.
use Rattle.std.specs.Prelude.{ℕ, zero, suc, ◌+◌, Bool, ◌&&◌, List, [], ◌++◌, length, codes, decimal, nat_lt}
use Rattle.rollout_rules.specs.Sums.{sum_below, count_below}
use Rattle.rollout_rules.specs.Wan.{Problem, Plan, last_stage}
use Rattle.rollout_rules.specs.Items.{item_count, item_at}
use Rattle.rollout_rules.specs.Operations.{changes_behind, changes_to, operations}
use Rattle.rollout_rules.specs.History.{History, settled, flies}
use Rattle.rollout_report.specs.Ends.{end_lines}

-- how many operations a rollout has, how many of them are settled, those of the start among them, and how many are in flight
abbrev pub operations_of_all : Problem → Plan → ℕ
operations_of_all p plan = sum_below (item_count p) (λ n. operations p plan (item_at p n))

abbrev pub settled_of_all : Problem → History → ℕ
settled_of_all p h = sum_below (item_count p) (settled h)

abbrev pub flying_of_all : Problem → History → ℕ
flying_of_all p h = count_below (item_count p) (flies h)

-- whether item n has an operation to stage s + 1, and whether that one is settled: whether more are settled than the item
-- has change points up to stage s
abbrev pub has_change : Problem → Plan → ℕ → ℕ → Bool
has_change p plan s n = changes_behind p plan (item_at p n) s

abbrev pub has_settled : Problem → Plan → History → ℕ → ℕ → Bool
has_settled p plan h s n = has_change p plan s n && nat_lt (changes_to p plan (item_at p n) s) (settled h n)

-- how many operations to stage s + 1 there are, and how many of them are settled
abbrev pub operations_to : Problem → Plan → ℕ → ℕ
operations_to p plan s = count_below (item_count p) (has_change p plan s)

abbrev pub settled_to : Problem → Plan → History → ℕ → ℕ
settled_to p plan h s = count_below (item_count p) (has_settled p plan h s)

-- the first line, by its numbers, and that of a history
abbrev pub counts_line : ℕ → ℕ → ℕ → ℕ → List ℕ
counts_line entries done all flying =
    codes "entries " ++ decimal entries ++ codes ", settled " ++ decimal done ++ codes " of " ++ decimal all ++ codes ", flying " ++ decimal flying ++ codes "\n"

unfoldable pub sum_line : Problem → Plan → History → List ℕ
sum_line p plan h = counts_line (length h.entries) (settled_of_all p h) (operations_of_all p plan) (flying_of_all p h)

-- the line of stage s + 1, and those of the first so many stages from 1 on
abbrev pub stage_line : ℕ → ℕ → ℕ → List ℕ
stage_line s done all = codes "stage " ++ decimal (s + 1) ++ codes ": " ++ decimal done ++ codes " of " ++ decimal all ++ codes "\n"

abbrev pub stage_lines : Problem → Plan → History → ℕ → List ℕ
stage_lines p plan h zero = []
stage_lines p plan h (suc s) = stage_lines p plan h s ++ stage_line s (settled_to p plan h s) (operations_to p plan s)

unfoldable pub report_text : Problem → Plan → History → List ℕ
report_text p plan h = sum_line p plan h ++ stage_lines p plan h (last_stage plan) ++ end_lines p plan h
