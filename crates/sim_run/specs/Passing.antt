-- What is on its way and what the switches hold, by numbers: a rehearsal is of the network's first migration, so each pair
-- held is of it.
use Rattle.std.specs.Prelude.{ℕ, ◌+◌, List, [], ◌∷◌, ◌++◌, length, slice_index, slice_set, ◌==◌, if◌then◌else◌}
use Rattle.rollout_rules.specs.Sums.{list_below}
use Rattle.rollout_rules.specs.Wan.{Problem, Plan}
use Rattle.rollout_rules.specs.Items.{item_at}
use Rattle.rollout_rules.specs.Operations.{content_after}
use Rattle.rollout_rules.specs.Agent.{pair_of, Holding}
use Rattle.rollout_rules.specs.declared.held.Given.{Given}
use Rattle.rollout_rules.specs.declared.op.Op.{Op}

-- the commands sent, the answers given, each an item and how many of its operations its switch has applied, and how many
-- the switch of each item has
pub record Passing : Type 0 where
  pub sent : List Op
  pub given : List Op
  pub applied : List ℕ

-- how many operations a switch has applied after a command: it applies the next one alone
abbrev pub applied_after : ℕ → ℕ → ℕ
applied_after applied asked = if asked == applied + 1 then asked else applied

-- the answer to a command, and what has passed with it
abbrev pub answer_to : Passing → Op → Op
answer_to w op = record { item = op.item; number = applied_after (slice_index w.applied op.item) op.number }

abbrev pub with_delivered : Passing → Op → Passing
with_delivered w op = record w { given = w.given ++ answer_to w op ∷ []; applied = slice_set w.applied op.item (answer_to w op).number }

-- an answer with its pair
abbrev pub given_of : Op → Given
given_of answer = record { item = answer.item; held = pair_of 0 answer.number }

-- what the switch of item n holds with so many operations applied, and what all switches hold
abbrev pub holding_at : Problem → Plan → ℕ → ℕ → Holding
holding_at p plan n applied = record { held = pair_of 0 applied; content = content_after p plan (item_at p n) applied }

abbrev pub holdings : Problem → Plan → List ℕ → List Holding
holdings p plan applied = list_below (length applied) (λ n. holding_at p plan n (slice_index applied n))
