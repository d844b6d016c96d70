-- A history for worked examples.
use Rattle.std.specs.Prelude.{ℕ, [], ◌∷◌}
use Rattle.rollout_rules.specs.History.{History}
use Rattle.rollout_rules.specs.declared.op.Op.{Op}
use Rattle.rollout_rules.specs.declared.op.Entry.TheVariants.{Begin, Done}

abbrev pub op : ℕ → ℕ → Op
op item number = record { item = item; number = number }

-- of four items the first is in flight and the third is done
abbrev pub one_flies : History
one_flies = record { start = 0 ∷ 0 ∷ 0 ∷ 0 ∷ []; entries = Begin (op 0 1) ∷ Begin (op 2 1) ∷ Done (op 2 1) ∷ [] }
