use Rattle.std.proofs.Common.{sym, ◌∙◌}
use Rattle.order_policy.specs.Answers.{rank_by}
use Rattle.switch_ports.specs.Berths.{ports_of}
use Rattle.controller_run.proofs.RolloutEnds.{end-behind, run-from}
use Rattle.controller_run.proofs.rollouts.run_book.Goals as goal

pub returns-clause-run : goal.returns-clause-run
returns-clause-run g c =
    run-from g.D.Disk.told g.F.Port.Port.told
    (rank_by c.args.book.policy.now.answers) c.args.limits.migration c.args.limits.rounds c.args.book.chronicle c.run-book.result.0.chronicle
    (ports_of (g.F.Fleet.told c.args.fleet.now)) (ports_of (g.F.Fleet.told c.run-book.new.fleet))
    c.outcome_of.result.disk c.run-book.result.1 c.outcome_of.result.outcome
    c.requires.opened.count c.run-book.ensures.ran c.outcome_of.ensures.outcome c.outcome_of.ensures.disk c.run-book.ensures.stays

pub returns-clause-no_port : goal.returns-clause-no_port
returns-clause-no_port g c = λ switch is. c.run-book.ensures.cause switch (sym (end-behind c.run-book.result.0.chronicle c.run-book.result.1 c.outcome_of.result.outcome c.outcome_of.ensures.outcome) ∙ is)
