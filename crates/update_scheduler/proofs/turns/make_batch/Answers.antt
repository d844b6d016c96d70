use Rattle.std.proofs.Common.{◌∙◌, ◌++◌, length, ap, ap₂, arith}
use Rattle.rollout_rules.specs.Items.{item_count}
use Rattle.order_policy.specs.Answers.{rank_by}
use Rattle.dependency_graph.specs.Graph.{Followed}
use Rattle.update_scheduler.specs.Benches.{ops_of}
use Rattle.update_scheduler.specs.Tried.{released_by, with_release}
use Rattle.update_scheduler.proofs.Batches.{dones-short}
use Rattle.update_scheduler.proofs.Turning.{batch-graph}
use Rattle.update_scheduler.proofs.turns.make_batch.Goals as goal

pub begin_released-requires-clause-room : goal.begin_released-requires-clause-room
begin_released-requires-clause-room g c =
    omega (
      arith,
      ap (λ (f : Followed). item_count f.rollout.problem) c.end_told.ensures.graph,
      ap length c.end_told.ensures.batch,
      c.end_told.new.batch.ok.0,
      dones-short c.args.graph.now.rollout.problem c.args.graph.now.history c.args.told.now.answers,
      c.end_told.ensures.capacity,
      c.clear.ensures.capacity,
      c.requires.room,
    )

pub returns-clause-graph : goal.returns-clause-graph
returns-clause-graph g c =
    let policy = rank_by c.args.policy.now.answers in
    c.begin_released.ensures.graph ∙ ap (λ (f : Followed). with_release f policy) c.end_told.ensures.graph ∙ batch-graph c.args.graph.now policy c.args.told.now.answers

pub returns-clause-batch : goal.returns-clause-batch
returns-clause-batch g c =
    let policy = rank_by c.args.policy.now.answers in
    c.begin_released.ensures.batch ∙ ap₂ (λ es (f : Followed). es ++ released_by f policy) c.end_told.ensures.batch c.end_told.ensures.graph

pub returns-clause-bench : goal.returns-clause-bench
returns-clause-bench g c =
    let policy = rank_by c.args.policy.now.answers in
    c.begin_released.ensures.bench ∙ ap (λ (f : Followed). record { items = c.args.bench.now.items; begun = ops_of (released_by f policy) }) c.end_told.ensures.graph
