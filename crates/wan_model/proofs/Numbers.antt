-- A row's number is the place of its name or its ends.
use Rattle.std.proofs.Common.{◌≡◌, ℕ, ◌&&◌, ◌==◌, List, ap, ◌∙◌}
use Rattle.rollout_rules.specs.Sums.{same_numbers}
use Rattle.rollout_rules.specs.Wan.{Problem}
use Rattle.rollout_rules.specs.Building.{find_switch, find_flow, find_link}
use Rattle.wan_model.specs.Numbered.{IsNumbered, find_name, find_ends}
use Rattle.wan_model.proofs.Positions.{position-map}

module _ (p : Problem) (names flow_names : List (List ℕ)) (ends : List (ℕ × ℕ)) (are : IsNumbered p names flow_names ends) where
  pub numbers_switch : (name : List ℕ) → find_name names name ≡ find_switch p name
  numbers_switch name = ap (λ ns. find_name ns name) are.of_switches ∙ position-map (λ n. same_numbers n name) (λ s. s.name) p.switches

  pub numbers_flow : (name : List ℕ) → find_name flow_names name ≡ find_flow p name
  numbers_flow name = ap (λ ns. find_name ns name) are.of_flows ∙ position-map (λ n. same_numbers n name) (λ f. f.name) p.flows

  pub numbers_link : (a b : ℕ) → find_ends ends a b ≡ find_link p a b
  numbers_link a b = ap (λ es. find_ends es a b) are.of_links ∙ position-map (λ (e : ℕ × ℕ). (e.0 == a) && (e.1 == b)) (λ l. (l.from, l.to)) p.links
