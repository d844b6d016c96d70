-- Programs whose ends are worked out.
use Rattle.std.specs.Prelude.{ℕ, ◌^◌, ℤ, pos, negsuc, List, [], ◌∷◌, map}
use Rattle.fraction_lp.specs.Dictionary.{Row}
use Rattle.fraction_lp.specs.Ratio.{Ratio, ratio}
use Rattle.fraction_lp.specs.Dictionary.{Program}

abbrev pub whole : ℤ → Ratio
whole z = ratio z 1

abbrev pub row : List ℤ → ℤ → Row
row coefficients bound = record { coefficients = map whole coefficients; bound = whole bound }

-- x is at most -1
abbrev pub below_zero : Program
below_zero = record { unknowns = 1; rows = row (pos 1 ∷ []) (negsuc 0) ∷ [] }

-- x is at most 2 and at least 1
abbrev pub between_one_and_two : Program
between_one_and_two = record { unknowns = 1; rows = row (pos 1 ∷ []) (pos 2) ∷ row (negsuc 0 ∷ []) (negsuc 0) ∷ [] }

-- x over 2^100 is at least 1, and x times 2^100 is at most 1
abbrev pub too_wide : Program
too_wide = record {
  unknowns = 1;
  rows =
      record { coefficients = ratio (negsuc 0) (2 ^ 100) ∷ []; bound = whole (negsuc 0) }
      ∷ row (pos (2 ^ 100) ∷ []) (pos 1) ∷ [];
}

-- Two flows that trade a link of capacity 2, the first leaving and the second coming, in two steps: the unknowns
-- are both rates between, then the tops of the first step, then those of the second.
abbrev pub trade : Program
trade = record {
  unknowns = 6;
  rows =
      row (pos 0 ∷ pos 0 ∷ negsuc 0 ∷ pos 0 ∷ pos 0 ∷ pos 0 ∷ []) (negsuc 1)
      ∷ row (pos 1 ∷ pos 0 ∷ negsuc 0 ∷ pos 0 ∷ pos 0 ∷ pos 0 ∷ []) (pos 0)
      ∷ row (pos 0 ∷ pos 0 ∷ pos 0 ∷ negsuc 0 ∷ pos 0 ∷ pos 0 ∷ []) (pos 0)
      ∷ row (pos 0 ∷ pos 1 ∷ pos 0 ∷ negsuc 0 ∷ pos 0 ∷ pos 0 ∷ []) (pos 0)
      ∷ row (pos 1 ∷ pos 0 ∷ pos 0 ∷ pos 0 ∷ negsuc 0 ∷ pos 0 ∷ []) (pos 0)
      ∷ row (pos 0 ∷ pos 0 ∷ pos 0 ∷ pos 0 ∷ negsuc 0 ∷ pos 0 ∷ []) (pos 0)
      ∷ row (pos 0 ∷ pos 1 ∷ pos 0 ∷ pos 0 ∷ pos 0 ∷ negsuc 0 ∷ []) (pos 0)
      ∷ row (pos 0 ∷ pos 0 ∷ pos 0 ∷ pos 0 ∷ pos 0 ∷ negsuc 0 ∷ []) (negsuc 1)
      ∷ row (pos 0 ∷ pos 0 ∷ pos 1 ∷ pos 1 ∷ pos 0 ∷ pos 0 ∷ []) (pos 2)
      ∷ row (pos 0 ∷ pos 0 ∷ pos 0 ∷ pos 0 ∷ pos 1 ∷ pos 1 ∷ []) (pos 2)
      ∷ row (negsuc 0 ∷ pos 0 ∷ pos 0 ∷ pos 0 ∷ pos 0 ∷ pos 0 ∷ []) (pos 0)
      ∷ row (pos 1 ∷ pos 0 ∷ pos 0 ∷ pos 0 ∷ pos 0 ∷ pos 0 ∷ []) (pos 2)
      ∷ row (pos 0 ∷ negsuc 0 ∷ pos 0 ∷ pos 0 ∷ pos 0 ∷ pos 0 ∷ []) (pos 0)
      ∷ row (pos 0 ∷ pos 1 ∷ pos 0 ∷ pos 0 ∷ pos 0 ∷ pos 0 ∷ []) (pos 2)
      ∷ [];
}
