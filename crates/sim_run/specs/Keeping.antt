-- What keeps the rollout of a controller of a rehearsal.
use Rattle.std.specs.Prelude.{◌<◌, ◌≤◌, ℕ, Bool, true, List, []}
use Rattle.rollout_rules.specs.Wan.{Rollout}
use Rattle.rollout_rules.specs.Items.{item_count}
use Rattle.rollout_rules.specs.History.{begun, from_nothing, with_entries}
use Rattle.rollout_rules.specs.Release.{batch}
use Rattle.rollout_rules.specs.declared.op.Op.{Op}
use Rattle.rollout_rules.specs.declared.op.OpView.{OpView}
use Rattle.rollout_rules.specs.declared.op.Entry.{Entry}
use Rattle.dependency_graph.specs.Graph.{Followed}
use Rattle.wan_edge.specs.Frames.{Answer}
use Rattle.rollout_book.specs.Aliens.{told_by}

-- the rollout with its durable history, and whether it lives: it is given up where a round or a start found no memory
pub record Keeping : Type 0 where
  pub graph : Followed
  pub live : Bool

-- before the first round
abbrev pub first_keeping : Rollout → Keeping
first_keeping r = record { graph = record { rollout = r; history = from_nothing r.problem [] }; live = true }

-- the batch of a graph over these answers, and the graph with a batch after its history
abbrev pub batch_over : Followed → (OpView → ℕ) → List Answer → List Entry
batch_over g policy answers = batch g.rollout.problem g.rollout.plan policy g.history (told_by answers)

abbrev pub graph_with : Followed → List Entry → Followed
graph_with g es = record g { history = with_entries g.history es }

-- and what a round over them makes
abbrev pub with_round : Keeping → (OpView → ℕ) → List Answer → Keeping
with_round k policy answers = record k { graph = graph_with k.graph (batch_over k.graph policy answers) }

-- what a switch may tell: of an item that exists, no more than what was begun
pub record MayTell (g : Followed) (op : Op) : Type 0 where
  pub item : op.item < item_count g.rollout.problem
  pub number : op.number ≤ begun g.history op.item
