-- The controller of a rehearsal: what keeps its rollout, and what it was told.
use Rattle.std.specs.Prelude.{ℕ, Bool, true, false, List, [], ◌∷◌, ◌++◌}
use Rattle.rollout_rules.specs.Wan.{Rollout}
use Rattle.rollout_rules.specs.History.{History, from_nothing, with_entries}
use Rattle.rollout_rules.specs.Release.{batch}
use Rattle.rollout_rules.specs.declared.op.Op.{Op}
use Rattle.rollout_rules.specs.declared.op.OpView.{OpView}
use Rattle.rollout_rules.specs.declared.op.Entry.{Entry}
use Rattle.wan_edge.specs.Frames.{Answer}
use Rattle.rollout_book.specs.Aliens.{told_by}
use Rattle.sim_run.specs.Keeping.{Keeping}

-- The rollout with its durable history, the answers that earlier rounds have heard since the controller started and those handed
-- over since the last round (each an item, and the number that its switch holds), whether the controller is up, and whether it
-- lives: it is given up where a round or a start found no memory.
pub record Controlling : Type 0 where
  pub rollout : Rollout
  pub history : History
  pub earlier : List Op
  pub heard : List Op
  pub up : Bool
  pub live : Bool

-- a controller by its parts in code
abbrev pub controlling_of : Keeping → List Op → List Answer → Bool → Controlling
controlling_of rounds earlier answers up = record {
  rollout = rounds.graph.rollout;
  history = rounds.graph.history;
  earlier = earlier;
  heard = told_by answers;
  up = up;
  live = rounds.live;
}

-- before the first round
abbrev pub first_controlling : Rollout → Controlling
first_controlling r = record { rollout = r; history = from_nothing r.problem []; earlier = []; heard = []; up = true; live = true }

-- an answer is handed over; and the controller stops, and forgets all that were
abbrev pub with_answer : Controlling → Op → Controlling
with_answer c answer = record c { heard = c.heard ++ answer ∷ [] }

abbrev pub with_nothing : Controlling → Controlling
with_nothing c = record c { earlier = []; heard = []; up = false }

-- the batch of a round, and what stands after it
abbrev pub batch_of : Controlling → (OpView → ℕ) → List Entry
batch_of c policy = batch c.rollout.problem c.rollout.plan policy c.history c.heard

abbrev pub after_round : Controlling → (OpView → ℕ) → Controlling
after_round c policy = record c { history = with_entries c.history (batch_of c policy); earlier = c.earlier ++ c.heard; heard = [] }
