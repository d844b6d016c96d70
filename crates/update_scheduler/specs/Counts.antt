-- How many entries of a batch end an operation, and how many begin one.
use Rattle.std.specs.Prelude.{ℕ, ◌+◌, List, [], ◌∷◌}
use Rattle.rollout_rules.specs.declared.op.Entry.{Entry}
use Rattle.rollout_rules.specs.declared.op.Entry.TheVariants.{Begin, Done}

abbrev pub count_done : List Entry → ℕ
count_done [] = 0
count_done (Begin op ∷ es) = count_done es
count_done (Done op ∷ es) = 1 + count_done es

abbrev pub count_begun : List Entry → ℕ
count_begun [] = 0
count_begun (Begin op ∷ es) = 1 + count_begun es
count_begun (Done op ∷ es) = count_begun es
