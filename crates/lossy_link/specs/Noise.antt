-- What a noise port is seen as.
use Rattle.std.specs.Prelude.{ℕ, List}
use Rattle.lossy_link.specs.Counting.{Counts, after_giving}
use Rattle.lossy_link.specs.WayBack.{Back, after_hearing}

-- the bytes offered, those that came back and those still to come, and the counts
pub record Noise : Type 0 where
  pub offered : List ℕ
  pub back : Back
  pub counts : Counts

-- so many of the bytes to come were heard, where 0 is a quiet hear
abbrev pub after_noise : Noise → ℕ → Noise
after_noise p n = record { offered = p.offered; back = after_hearing p.back n; counts = after_giving p.counts n }
