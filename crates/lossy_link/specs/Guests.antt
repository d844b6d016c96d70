-- What a guest in memory is seen as.
use Rattle.wan_edge.specs.Memory.{Reading, Writing}

-- what it reads, and what it writes
pub record Visit : Type 0 where
  pub reading : Reading
  pub writing : Writing
