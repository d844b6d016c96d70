-- A controller's side of a rollout: what it has heard since its last round, and what a round makes of it.
use Rattle.std.specs.Prelude.{ℕ, List, [], ◌∷◌, ◌++◌}
use Rattle.rollout_rules.specs.Wan.{Rollout}
use Rattle.rollout_rules.specs.History.{History, with_entries}
use Rattle.rollout_rules.specs.Release.{batch}
use Rattle.rollout_rules.specs.World.{in_flight}
use Rattle.rollout_rules.specs.declared.op.Op.{Op}
use Rattle.rollout_rules.specs.declared.op.OpView.{OpView}
use Rattle.rollout_rules.specs.declared.op.Entry.{Entry}
use Rattle.dependency_graph.specs.Graph.{Followed}

-- The rollout with its history, the answers heard since the last round (an item, and the number that its switch holds),
-- and the batch of that round; none at first.
pub record Turning : Type 0 where
  pub rollout : Rollout
  pub history : History
  pub heard : List Op
  pub batch : List Entry

-- before the first answer and the first round
abbrev pub first_turn : Followed → Turning
first_turn g = record { rollout = g.rollout; history = g.history; heard = []; batch = [] }

-- the rollout with its history alone
abbrev pub graph_of : Turning → Followed
graph_of t = record { rollout = t.rollout; history = t.history }

-- an answer is heard; and all that were heard are forgotten
abbrev pub with_answer : Turning → Op → Turning
with_answer t answer = record t { heard = t.heard ++ answer ∷ [] }

abbrev pub with_nothing_heard : Turning → Turning
with_nothing_heard t = record t { heard = [] }

-- the batch of a round, and what stands after it
abbrev pub batch_of : Turning → (OpView → ℕ) → List Entry
batch_of t policy = batch t.rollout.problem t.rollout.plan policy t.history t.heard

abbrev pub after_round : Turning → (OpView → ℕ) → Turning
after_round t policy = record t { history = with_entries t.history (batch_of t policy); heard = []; batch = batch_of t policy }

-- the operations in flight, by item
abbrev pub flying_of : Turning → List Op
flying_of t = in_flight t.rollout.problem t.history
