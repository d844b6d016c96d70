-- The policies of the worked command lines.
use Rattle.std.specs.Prelude.{ℕ, ◌-◌, List, [], ◌∷◌, codes}
use Rattle.rollout_rules.specs.declared.op.OpView.{OpView}

-- the longest chain first
abbrev pub chain_first : OpView → ℕ
chain_first view = 4294967295 - view.chain

-- all at one rank, so by item
abbrev pub by_item : OpView → ℕ
by_item view = 0

abbrev pub two_policies : List (List ℕ × (OpView → ℕ))
two_policies = (codes "critical", chain_first) ∷ (codes "order", by_item) ∷ []
