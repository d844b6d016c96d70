-- The operations in flight, kept by item.
use Rattle.std.specs.Prelude.{ℕ, List, [], ◌∷◌, ◌++◌, map, drop, nat_lt, if◌then◌else◌}
use Rattle.rollout_rules.specs.declared.op.Op.{Op}
use Rattle.rollout_rules.specs.declared.op.Entry.{Entry}
use Rattle.rollout_rules.specs.declared.op.Entry.TheVariants.{Begin, Done}

-- for how many items there is room, and the operations
pub record Flown : Type 0 where
  pub items : ℕ
  pub ops : List Op

-- the items of operations
abbrev pub items_of : List Op → List ℕ
items_of ops = map (λ op. op.item) ops

-- of operations by item those of lower items, and the others
abbrev pub ahead : ℕ → List Op → List Op
ahead n [] = []
ahead n (op ∷ ops) = if nat_lt op.item n then op ∷ ahead n ops else []

abbrev pub behind : ℕ → List Op → List Op
behind n [] = []
behind n (op ∷ ops) = if nat_lt op.item n then behind n ops else op ∷ ops

-- After an entry: an operation that begins comes in at the place of its item, and one that is done goes from there. This speaks
-- of operations whose items go up, in which one that begins has no place yet, and one that is done stands: of any other list what is done takes out the
-- first that isn't ahead.
abbrev pub with_entry : List Op → Entry → List Op
with_entry ops (Begin op) = ahead op.item ops ++ (op ∷ behind op.item ops)
with_entry ops (Done op) = ahead op.item ops ++ drop 1 (behind op.item ops)

abbrev pub with_each : List Op → List Entry → List Op
with_each ops [] = ops
with_each ops (e ∷ es) = with_each (with_entry ops e) es
