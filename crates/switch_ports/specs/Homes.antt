-- The switches at which a rollout has work.
use Rattle.std.specs.Prelude.{ℕ, zero, suc, Bool, false, ◌&&◌, ◌||◌, List, [], ◌∷◌, ◌++◌, length, nat_lt, if◌then◌else◌}
use Rattle.rollout_rules.specs.Wan.{Plan, Problem}
use Rattle.rollout_rules.specs.Items.{home_of, item_at, item_count}
use Rattle.rollout_rules.specs.Operations.{operations}
use Rattle.rollout_rules.specs.declared.item.Item.{Item}
use Rattle.switch_ports.specs.Outboxes.{is_switch}

-- whether some number below n passes the test
abbrev pub some_below : ℕ → (ℕ → Bool) → Bool
some_below zero test = false
some_below (suc n) test = some_below n test || test n

-- the numbers below n that pass the test, from 0 up
abbrev pub passing_below : ℕ → (ℕ → Bool) → List ℕ
passing_below zero test = []
passing_below (suc n) test = passing_below n test ++ (if test n then n ∷ [] else [])

-- whether an item has an operation
abbrev pub has_work : Problem → Plan → Item → Bool
has_work p plan i = nat_lt 0 (operations p plan i)

-- whether an item has an operation, and its home is this switch
abbrev pub works_at : Problem → Plan → ℕ → Item → Bool
works_at p plan switch i = has_work p plan i && is_switch switch (home_of p i)

-- whether this switch is the home of an item with an operation
abbrev pub is_working_home : Problem → Plan → ℕ → Bool
is_working_home p plan switch = some_below (item_count p) (λ n. works_at p plan switch (item_at p n))

-- the switches that are, from number 0 up
abbrev pub working_homes : Problem → Plan → List ℕ
working_homes p plan = passing_below (length p.switches) (is_working_home p plan)
