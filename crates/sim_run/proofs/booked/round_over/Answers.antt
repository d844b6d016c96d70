use Rattle.std.proofs.Common.{ap, ◌∙◌}
use Rattle.lists.proofs.Results.{of_ok}
use Rattle.disk_model.specs.Memory.{Storing}
use Rattle.order_policy.specs.Answers.{rank_by}
use Rattle.rollout_book.specs.JournaledRounds.{Journaled, batch_of, graph_of}
use Rattle.sim_run.proofs.Books.{dead-refused, err-value, is-disk, ok-fact, own-behind, own-refused}
use Rattle.sim_run.proofs.booked.round_over.Goals as goal

pub round-requires : goal.round-requires
round-requires g c = record { live = c.requires.own.live }

pub returns-in-Ok-clause-own : goal.returns-in-Ok-clause-own
returns-in-Ok-clause-own g c live =
    let old = c.args.book.now in
    own-behind old c.round.new.self (batch_of old (rank_by c.args.policy.now.answers) c.args.answers.now) c.requires.own (ok-fact c.round.result c.in-Ok.turn _ c.in-Ok.is c.round.ensures.written) c.round.ensures.owner

pub returns-in-Ok-clause-graph : goal.returns-in-Ok-clause-graph
returns-in-Ok-clause-graph g c = ap (λ (b : Journaled Storing). graph_of b) (ok-fact c.round.result c.in-Ok.turn _ c.in-Ok.is c.round.ensures.written)

pub returns-in-Ok-clause-turn : goal.returns-in-Ok-clause-turn
returns-in-Ok-clause-turn g c = of_ok c.round.result c.in-Ok.turn _ c.in-Ok.is c.round.ensures.turn

pub returns-in-Err-clause-own : goal.returns-in-Err-clause-own
returns-in-Err-clause-own g c =
    let old = c.args.book.now in
    own-refused c.in-Err.fault old c.round.new.self (batch_of old (rank_by c.args.policy.now.answers) c.args.answers.now) c.requires.own (err-value c.round.result c.in-Err.fault _ c.in-Err.is c.round.ensures.unchanged) (err-value c.round.result c.in-Err.fault _ c.in-Err.is c.round.ensures.lost)

pub want_in_round-requires : goal.want_in_round-requires
want_in_round-requires g c = is-disk c.in-Err.fault (graph_of c.args.book.now) c.args.answers.now (err-value c.round.result c.in-Err.fault _ c.in-Err.is c.round.ensures.alien) c.requires.told

pub returns-in-Err-clause-given_up : goal.returns-in-Err-clause-given_up
returns-in-Err-clause-given_up g c =
    let old = c.args.book.now in
    dead-refused c.in-Err.fault old c.round.new.self (batch_of old (rank_by c.args.policy.now.answers) c.args.answers.now)
    (is-disk c.in-Err.fault (graph_of old) c.args.answers.now (err-value c.round.result c.in-Err.fault _ c.in-Err.is c.round.ensures.alien) c.requires.told) (err-value c.round.result c.in-Err.fault _ c.in-Err.is c.round.ensures.lost)

pub returns-in-Ok-clause-live : goal.returns-in-Ok-clause-live
returns-in-Ok-clause-live g c = ap (λ (b : Journaled Storing). b.live) (ok-fact c.round.result c.in-Ok.turn _ c.in-Ok.is c.round.ensures.written) ∙ c.requires.own.live
