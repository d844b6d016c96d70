-- What the entries of a round's batch are.
use Rattle.std.specs.Prelude.{◌≡◌, ℕ, Bool, ◌&&◌, List, ◌==◌, nat_le, IsTrue, IsFalse}
use Rattle.std.specs.List.{list_any}
use Rattle.rollout_rules.specs.Wan.{Problem, Plan}
use Rattle.rollout_rules.specs.History.{History, flies}
use Rattle.rollout_rules.specs.Release.{next_op, view_of, is_held_back}
use Rattle.rollout_rules.specs.declared.op.Op.{Op}
use Rattle.rollout_rules.specs.declared.op.OpView.{OpView}
use Rattle.rollout_rules.specs.declared.op.Entry.{Entry}
use Rattle.rollout_rules.specs.declared.op.Entry.TheVariants.{Begin, Done}

-- the Begin of its item's next operation
abbrev pub BeginsNext : History → Entry → Type 0
BeginsNext h (Begin op) = op ≡ next_op h op.item
BeginsNext h (Done op) = ⊥

-- the Begin of an item that the policy doesn't hold back
abbrev pub BeginsUnheld : Problem → Plan → (OpView → ℕ) → History → Entry → Type 0
BeginsUnheld p plan policy h (Begin op) = IsFalse (is_held_back policy (view_of p plan h op.item))
BeginsUnheld p plan policy h (Done op) = ⊥

-- whether an answer, an item and a number, covers an operation
abbrev pub covers : Op → Op → Bool
covers op a = (a.item == op.item) && nat_le op.number a.number

-- the Done of its item's operation in flight, which an answer covers
abbrev pub EndsAnswered : History → List Op → Entry → Type 0
EndsAnswered h answers (Begin op) = ⊥
EndsAnswered h answers (Done op) = IsTrue (flies h op.item) × (op ≡ next_op h op.item) × IsTrue (list_any (covers op) answers)
