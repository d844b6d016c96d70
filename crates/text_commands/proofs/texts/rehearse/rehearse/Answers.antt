use Rattle.std.proofs.lemmas.Result.{err_from_is_err_and}
use Rattle.order_policy.specs.Answers.{rank_by}
use Rattle.text_commands.proofs.Commands.{rehearse-refuses, rehearse-answers, read-rehearses-truly}
use Rattle.text_commands.proofs.texts.rehearse.rehearse.Goals as goal

pub returns-in_err-document-clause-gives : goal.returns-in_err-document-clause-gives
returns-in_err-document-clause-gives g c = let p = err_from_is_err_and c.from_residual.result c.from_residual.ensures.1 in rw (p.1, p.2) (rehearse-refuses c.args.shape.now (rank_by c.args.policy.now.answers) _ _ c.in_err-document.ensures)

pub returns-clause-gives : goal.returns-clause-gives
returns-clause-gives g c = rw (rehearse-answers c.args.shape.now (rank_by c.args.policy.now.answers) _ _ c.in_ok-document.ensures) c.drawn_up.ensures.gives

pub returns-clause-safe : goal.returns-clause-safe
returns-clause-safe g c =
    read-rehearses-truly c.args.shape.now (rank_by c.args.policy.now.answers) _ _ c.drawn_up.result c.in_ok-document.ensures
    (c.a_plan_that_is_read_is_within.ensures _ _ c.in_ok-document.ensures) c.drawn_up.ensures.safe
