-- What a controller's side keeps.
use Rattle.std.specs.Prelude.{◌≡◌, ℕ, ◌*◌, ◌≤◌, true, List, length}
use Rattle.rollout_rules.specs.Items.{item_count}
use Rattle.rollout_rules.specs.Legal.{is_legal}
use Rattle.rollout_rules.specs.World.{in_flight}
use Rattle.rollout_rules.specs.History.{with_entries}
use Rattle.rollout_rules.specs.Release.{batch}
use Rattle.rollout_rules.specs.declared.op.Op.{Op}
use Rattle.rollout_rules.specs.declared.op.OpView.{OpView}
use Rattle.rollout_rules.specs.declared.op.Entry.{Entry}
use Rattle.dependency_graph.specs.Graph.{Followed}
use Rattle.update_scheduler.specs.Benches.{Begun, ops_of}
use Rattle.update_scheduler.specs.Tried.{released_by}
use Rattle.update_scheduler.specs.Counts.{count_done, count_begun}
use Rattle.update_scheduler.specs.Endings.{Acks, covered_items, with_dones}
use Rattle.update_scheduler.specs.InFlight.{Flown}
use Rattle.update_scheduler.specs.Rows.{HasSame}

-- Contracts know the answers heard, and code the items that they tell of.
abbrev pub IsTold : Followed → Acks → Type 0
IsTold g told = (told.items ≡ item_count g.rollout.problem) × HasSame told.row (covered_items g.rollout.problem g.history told.answers)

-- the rollout with the batch of a round, and the operations that this begins
abbrev pub with_batch : Followed → (OpView → ℕ) → List Op → Followed
with_batch g policy answers = record g { history = with_entries g.history (batch g.rollout.problem g.rollout.plan policy g.history answers) }

abbrev pub begun_in : Followed → (OpView → ℕ) → List Op → List Op
begun_in g policy answers = ops_of (released_by (with_dones g answers) policy)

-- The history is legal, and all else is of that history, of what was heard, and of the last batch.
pub record IsTurning (g : Followed) (bench : Begun) (flights : Flown) (told : Acks) (entries : List Entry) (room : ℕ) : Type 0 where
  pub legal : is_legal g.rollout.problem g.rollout.plan g.history ≡ true
  pub bench_fits : bench.items ≡ item_count g.rollout.problem
  pub flights_fit : flights.items ≡ item_count g.rollout.problem
  pub flying : flights.ops ≡ in_flight g.rollout.problem g.history
  pub heard : IsTold g told
  pub begins : length bench.begun ≡ count_begun entries
  pub few_dones : count_done entries ≤ item_count g.rollout.problem
  pub few_begins : count_begun entries ≤ item_count g.rollout.problem
  pub enough : 2 * item_count g.rollout.problem ≤ room
