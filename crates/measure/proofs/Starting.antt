-- Where nothing was begun.
use Rattle.std.proofs.Common.{◌≡◌, ◌∙◌, ℕ, ◌+◌, [], false, ap, arith, ne_eqb}
use Rattle.rollout_rules.specs.Wan.{Problem}
use Rattle.rollout_rules.specs.History.{History, from_nothing, begun, settled, flies}

pub nothing_flies : (h : History) (p : Problem) → h ≡ from_nothing p [] → (item : ℕ) → flies h item ≡ false
nothing_flies h p empty item =
    ap (λ one. flies one item) empty
    ∙ ne_eqb (begun (from_nothing p []) item) (settled (from_nothing p []) item + 1) (λ e. omega arith)
