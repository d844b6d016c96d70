-- Images that agree at some places.
use Rattle.std.specs.Prelude.{◌≡◌, ◌⊎◌, ⊤, ℕ, ◌+◌, ◌<◌, ◌≤◌, List, [], ◌∷◌, length, slice_index_or}

-- the new image isn't shorter, and has at each of these places the byte of the old one
pub record AgreesOn (places : ℕ → Type 0) (old new : List ℕ) : Type 0 where
  pub no_shorter : length old ≤ length new
  pub same : (i : ℕ) → places i → i < length old → slice_index_or new i 0 ≡ slice_index_or old i 0

-- the places before a range and after it
abbrev pub Outside : ℕ → ℕ → ℕ → Type 0
Outside at n i = (i < at) ⊎ (at + n ≤ i)

-- the places outside of all these ranges
abbrev pub OutsideAll : List (ℕ × ℕ) → ℕ → Type 0
OutsideAll [] i = ⊤
OutsideAll (range ∷ ranges) i = Outside range.0 range.1 i × OutsideAll ranges i

-- none of these ranges ends after this place
abbrev pub EndWithin : ℕ → List (ℕ × ℕ) → Type 0
EndWithin most [] = ⊤
EndWithin most (range ∷ ranges) = (range.0 + range.1 ≤ most) × EndWithin most ranges
