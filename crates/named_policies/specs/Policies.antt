-- The policies that a program hands in.
use Rattle.std.specs.Prelude.{◌≡◌, ℕ, ◌-◌, Bool, true, false, nat_le, List, [], ◌∷◌, codes, Option, None, Some, if◌then◌else◌}
use Rattle.rollout_rules.specs.declared.op.OpView.{OpView}
use Rattle.rollout_rules.specs.Release.{held_back}
use Rattle.order_policy.specs.Answers.{is_view, last_rank}
use Rattle.named_policies.specs.Saying.{ceiling_in}

-- the operation before the longest chain first (Dionysus' critical path)
abbrev pub critical : OpView → ℕ
critical view = last_rank - view.chain

-- all at one rank, so in the order of items
abbrev pub order : OpView → ℕ
order view = 0

-- whether a stage is at the ceiling or above it; where there is no ceiling, none is
abbrev pub is_frozen : Option ℕ → ℕ → Bool
is_frozen None stage = false
is_frozen (Some ceiling) stage = nat_le ceiling stage

-- as by chains, but an operation is held back whose item stands at the ceiling or above it
abbrev pub freeze : Option ℕ → OpView → ℕ
freeze ceiling view = if is_frozen ceiling view.stage then held_back else critical view

-- these answers are those ranks, on every view that a policy is asked about
abbrev pub RanksBy : (OpView → ℕ) → (OpView → ℕ) → Type 0
RanksBy answers ranks = (view : OpView) → is_view view ≡ true → answers view ≡ ranks view

-- these answers hold back from a ceiling on that some word says, or nothing where it says none
abbrev pub Freezes : (OpView → ℕ) → Type 0
Freezes answers = (word : List ℕ) × RanksBy answers (freeze (ceiling_in word))

-- what answers by chain under the name `critical`, by item under `order`, and up to a ceiling under `freeze`
abbrev pub named : (OpView → ℕ) → (OpView → ℕ) → (OpView → ℕ) → List (List ℕ × (OpView → ℕ))
named by_chain by_item frozen = (codes "critical", by_chain) ∷ (codes "order", by_item) ∷ (codes "freeze", frozen) ∷ []
