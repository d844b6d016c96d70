-- What a silent port is seen as.
use Rattle.std.specs.Prelude.{ℕ, List}
use Rattle.lossy_link.specs.Counting.{Counts}

pub record Silence : Type 0 where
  pub offered : List ℕ
  pub counts : Counts
