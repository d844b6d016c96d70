-- Entries that have passed.
use Rattle.std.specs.Prelude.{ℕ, List}
use Rattle.rollout_rules.specs.declared.op.Entry.{Entry}

-- the entries, and for how many there is room
pub record Entries : Type 0 where
  pub room : ℕ
  pub items : List Entry
