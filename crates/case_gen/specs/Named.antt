-- The networks of the worked examples, written out as an independent reference makes them.
use Rattle.std.specs.Prelude.{ℕ, [], ◌∷◌, ◌++◌, codes, decimal, Some}
use Rattle.rollout_rules.specs.Wan.{Link, Problem, Switch}

abbrev pub switch : ℕ → ℕ → Switch
switch number table = record { name = codes "s" ++ decimal number; table = table }

abbrev pub link : ℕ → ℕ → ℕ → Link
link from to capacity = record { from = from; to = to; capacity = capacity }

-- k 4, three switches, no flow, seed 7
unfoldable pub three_switches : Problem
three_switches = record {
  format = 1;
  switches = switch 0 0 ∷ switch 1 0 ∷ switch 2 0 ∷ [];
  links = link 0 1 0 ∷ link 0 2 0 ∷ link 1 2 0 ∷ link 1 0 0 ∷ link 2 0 0 ∷ link 2 1 0 ∷ [];
  flows = [];
  tunnels = [];
}

-- k 4, five switches, one flow, seed 7
unfoldable pub five_switches : Problem
five_switches = record {
  format = 1;
  switches = switch 0 0 ∷ switch 1 0 ∷ switch 2 2 ∷ switch 3 1 ∷ switch 4 2 ∷ [];
  links = link 0 1 0 ∷ link 0 2 0 ∷ link 1 2 0 ∷ link 1 3 0 ∷ link 2 3 1052 ∷ link 2 4 1320 ∷ link 3 4 1052 ∷ link 3 0 0 ∷ link 4 0 0 ∷ link 4 1 0 ∷ [];
  flows = record { name = codes "f" ++ decimal 0; first = 0; tunnels = 2 } ∷ [];
  tunnels =
      record { flow = 0; path = 2 ∷ 3 ∷ 4 ∷ []; links = 4 ∷ 6 ∷ []; width = 1; old = Some 769; new = Some 789 }
      ∷ record { flow = 0; path = 2 ∷ 4 ∷ []; links = 5 ∷ []; width = 1; old = Some 990; new = Some 909 } ∷ [];
}
