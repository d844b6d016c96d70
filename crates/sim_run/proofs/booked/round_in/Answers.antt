use Rattle.std.proofs.Common.{◌≡◌, Option, sym, subst}
use Rattle.std.specs.Prelude.{IfOk, OnOk}
use Rattle.disk_model.specs.Memory.{Storing}
use Rattle.order_policy.specs.Answers.{rank_by}
use Rattle.rollout_book.specs.JournaledRounds.{Journaled, graph_of, turn_of}
use Rattle.sim_run.specs.Booked.{graph_in}
use Rattle.sim_run.specs.Keeping.{batch_over, graph_with}
use Rattle.sim_run.proofs.booked.round_in.Goals as goal

pub returns-clause-graph : goal.returns-clause-graph
returns-clause-graph g c =
    subst (λ (s : Option (Journaled Storing)). OnOk c.round_over.result (graph_of c.round_over.new.book ≡ graph_with (graph_in s) (batch_over (graph_in s) (rank_by c.args.policy.now.answers) c.args.answers.now)))
    (sym c.in-Some.is) c.round_over.ensures.graph

pub returns-clause-turn : goal.returns-clause-turn
returns-clause-turn g c =
    subst (λ (s : Option (Journaled Storing)). IfOk c.round_over.result (λ turn. turn ≡ turn_of (batch_over (graph_in s) (rank_by c.args.policy.now.answers) c.args.answers.now)))
    (sym c.in-Some.is) c.round_over.ensures.turn
