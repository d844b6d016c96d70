-- What a write makes of the bytes of a disk, where it is done and where a crash cuts it short.
use Rattle.std.specs.Prelude.{◌≡◌, ℕ, ◌+◌, ◌-◌, ◌≤◌, max, List, ◌++◌, length, take, drop, replicate, Option}
use Rattle.std.specs.Option.{option_map}

-- these bytes stand in their range; before and after it stands what stood there, and a gap past the old end is zeros
abbrev pub written : ℕ → List ℕ → List ℕ → List ℕ
written at bytes old = take at old ++ (replicate (at - length old) 0 ++ (bytes ++ drop (at + length bytes) old))

-- what is told now is what was told, with these bytes written
abbrev pub Writes : ℕ → List ℕ → Option (List ℕ) → Option (List ℕ) → Type 0
Writes at bytes before now = now ≡ option_map (written at bytes) before

-- What a crash may make of old by a write of n bytes at this place: any bytes in the range and past the old end, and any length
-- between the old one and that of the whole write. All else stays.
pub record Torn (at n : ℕ) (old new : List ℕ) : Type 0 where
  pub no_shorter : length old ≤ length new
  pub no_longer : length new ≤ max (length old) (at + n)
  pub before : at ≤ length old → take at new ≡ take at old
  pub beyond : length old ≤ at → take (length old) new ≡ old
  pub after : drop (at + n) new ≡ drop (at + n) old
