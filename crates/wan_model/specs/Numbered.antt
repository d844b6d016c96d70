-- Rows that are found by their keys: a key's number is its place.
use Rattle.std.specs.Prelude.{◌≡◌, ℕ, ◌&&◌, List, map, Option, ◌==◌}
use Rattle.std.specs.List.{position}
use Rattle.rollout_rules.specs.Sums.{same_numbers}
use Rattle.rollout_rules.specs.Wan.{Problem}
use Rattle.rollout_rules.specs.Network.{IsNetwork}

-- the number of a name among names, and of two ends among the ends of links
abbrev pub find_name : List (List ℕ) → List ℕ → Option ℕ
find_name names name = position (λ n. same_numbers n name) names

abbrev pub find_ends : List (ℕ × ℕ) → ℕ → ℕ → Option ℕ
find_ends ends from to = position (λ e. (e.0 == from) && (e.1 == to)) ends

-- the names and ends are those of the problem's rows, in order
pub record IsNumbered (p : Problem) (names flow_names : List (List ℕ)) (ends : List (ℕ × ℕ)) : Type 0 where
  pub of_switches : names ≡ map (λ s. s.name) p.switches
  pub of_flows : flow_names ≡ map (λ f. f.name) p.flows
  pub of_links : ends ≡ map (λ l. (l.from, l.to)) p.links

-- a network whose rows are numbered by these names and ends
abbrev pub IsNumberedNetwork : Problem → List (List ℕ) → List (List ℕ) → List (ℕ × ℕ) → Type 0
IsNumberedNetwork p names flow_names ends = IsNetwork p × IsNumbered p names flow_names ends
