-- What was found stands among the switches.
use Rattle.std.proofs.Common.{◌≡◌, ℕ, ◌<◌, List, length, Some}
use Rattle.std.proofs.lemmas.List.Quantifiers.{position-Some}
use Rattle.rollout_rules.specs.Wan.{Problem, no_switch}
use Rattle.rollout_rules.specs.Building.{find_switch}
use Rattle.rollout_rules.specs.Sums.{same_numbers}

pub found_below : (p : Problem) (name : List ℕ) (w : ℕ) → find_switch p name ≡ Some w → w < length p.switches
found_below p name w is = (position-Some (λ s. same_numbers s.name name) p.switches w no_switch is).0
