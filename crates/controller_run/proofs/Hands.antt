-- Berths, and the talks with them before the first round.
use Rattle.std.proofs.Common.{◌≡◌, List, [], ◌∷◌, refl, ap}
use Rattle.switch_ports.specs.declared.ports.Berth.{Berth}
use Rattle.switch_ports.specs.Hands.{berths_of, first_sessions}

pub same_berths : {P : Type 0} (berths : List (Berth P)) → berths_of (first_sessions berths) ≡ berths
same_berths [] = refl
same_berths (b ∷ berths) = ap (λ (l : List (Berth _)). b ∷ l) (same_berths berths)
