-- Words of the worked examples.
use Rattle.std.specs.Prelude.{ℕ, ◌==◌, true, false, Bool, List, [], ◌∷◌, Some, None, if◌then◌else◌}
use Rattle.std.specs.List.{list_any}
use Rattle.rollout_rules.specs.Sums.{list_below}
use Rattle.rollout_rules.specs.Wan.{Problem, Plan}
use Rattle.rollout_rules.specs.Named.{link_from, tunnel_along, stage_with, three}
use Rattle.fraction_lp.specs.Ratio.{Ratio, zero_ratio, one_ratio}

-- so many multipliers, which are 1 at these places and else 0
abbrev pub ones_among : ℕ → List ℕ → List Ratio
ones_among n places = list_below n (λ k. if list_any (λ j. j == k) places then one_ratio else zero_ratio)

-- multipliers that exclude two steps for the detour
abbrev pub three_multipliers : List Ratio
three_multipliers = ones_among 40 (0 ∷ 3 ∷ 5 ∷ 7 ∷ 8 ∷ 11 ∷ 12 ∷ 15 ∷ 19 ∷ 20 ∷ 24 ∷ 26 ∷ 28 ∷ 30 ∷ 32 ∷ 36 ∷ 38 ∷ [])

-- the same without the last of them
abbrev pub without_the_last : List Ratio
without_the_last = ones_among 40 (0 ∷ 3 ∷ 5 ∷ 7 ∷ 8 ∷ 11 ∷ 12 ∷ 15 ∷ 19 ∷ 20 ∷ 24 ∷ 26 ∷ 28 ∷ 30 ∷ 32 ∷ 36 ∷ [])

-- two flows of rate 6 that change places over links of 8, beside a path of 12 that neither has in its old or new split
abbrev pub beside_rest : Problem
beside_rest = record {
  format = 1;
  switches = three.switches;
  links = link_from 0 1 8 ∷ link_from 1 4 8 ∷ link_from 0 2 8 ∷ link_from 2 4 8 ∷ link_from 0 3 12 ∷ link_from 3 4 12 ∷ [];
  flows = three.flows;
  tunnels = tunnel_along 0 (0 ∷ 1 ∷ 4 ∷ []) (0 ∷ 1 ∷ []) (Some 6) (Some 0)
      ∷ tunnel_along 0 (0 ∷ 2 ∷ 4 ∷ []) (2 ∷ 3 ∷ []) (Some 0) (Some 6)
      ∷ tunnel_along 0 (0 ∷ 3 ∷ 4 ∷ []) (4 ∷ 5 ∷ []) None None
      ∷ tunnel_along 1 (0 ∷ 1 ∷ 4 ∷ []) (0 ∷ 1 ∷ []) (Some 0) (Some 6)
      ∷ tunnel_along 1 (0 ∷ 2 ∷ 4 ∷ []) (2 ∷ 3 ∷ []) (Some 6) (Some 0)
      ∷ tunnel_along 1 (0 ∷ 3 ∷ 4 ∷ []) (4 ∷ 5 ∷ []) None None ∷ [];
}

-- multipliers that exclude two steps for them
abbrev pub rest_multipliers : List Ratio
rest_multipliers = ones_among 32 (3 ∷ 6 ∷ 8 ∷ 13 ∷ 18 ∷ 22 ∷ 28 ∷ [])

-- the tunnels that both splits have
abbrev pub without_the_path : List Bool
without_the_path = true ∷ true ∷ false ∷ true ∷ true ∷ false ∷ []

abbrev pub with_the_path : List Bool
with_the_path = true ∷ true ∷ true ∷ true ∷ true ∷ true ∷ []

-- two steps by way of that path, which is installed before and removed after
abbrev pub by_the_path : Plan
by_the_path = record {
  scale = 1;
  stages =
      stage_with (6 ∷ 0 ∷ 0 ∷ 0 ∷ 6 ∷ 0 ∷ []) without_the_path
      ∷ stage_with (6 ∷ 0 ∷ 0 ∷ 0 ∷ 6 ∷ 0 ∷ []) with_the_path
      ∷ stage_with (0 ∷ 0 ∷ 6 ∷ 0 ∷ 0 ∷ 6 ∷ []) with_the_path
      ∷ stage_with (0 ∷ 6 ∷ 0 ∷ 6 ∷ 0 ∷ 0 ∷ []) with_the_path
      ∷ stage_with (0 ∷ 6 ∷ 0 ∷ 6 ∷ 0 ∷ 0 ∷ []) without_the_path ∷ [];
}
