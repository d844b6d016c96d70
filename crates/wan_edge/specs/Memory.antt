-- What the objects in memory are seen as.
use Rattle.std.specs.Prelude.{ℕ, List}
use Rattle.wan_edge.specs.FailingTurns.{Turning}

-- the bytes not yet read, and those that were read
pub record Tape : Type 0 where
  pub left : List ℕ
  pub taken : List ℕ

-- the same, and which calls fail
pub record Reading : Type 0 where
  pub left : List ℕ
  pub taken : List ℕ
  pub turns : Turning

-- all the bytes that were taken, and which calls fail
pub record Writing : Type 0 where
  pub written : List ℕ
  pub turns : Turning
