-- What a release has begun.
use Rattle.std.specs.Prelude.{ℕ, List, [], ◌∷◌, map}
use Rattle.rollout_rules.specs.declared.op.Op.{Op}
use Rattle.rollout_rules.specs.declared.op.Entry.{Entry}
use Rattle.rollout_rules.specs.declared.op.Entry.TheVariants.{Begin, Done}

-- the operation that an entry is of
abbrev pub op_of : Entry → Op
op_of (Begin op) = op
op_of (Done op) = op

-- the operations of entries, in order
abbrev pub ops_of : List Entry → List Op
ops_of es = map op_of es

-- for how many items there is room, and what the last release has begun
pub record Begun : Type 0 where
  pub items : ℕ
  pub begun : List Op
