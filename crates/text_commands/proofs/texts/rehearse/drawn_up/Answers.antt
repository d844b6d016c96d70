use Rattle.order_policy.specs.Answers.{rank_by}
use Rattle.text_commands.proofs.Documents.{checked-drawn, sealed-drawn}
use Rattle.text_commands.proofs.texts.rehearse.drawn_up.Goals as goal

pub returns-clause-gives : goal.returns-clause-gives
returns-clause-gives g c =
    checked-drawn c.args.shape.now (rank_by c.args.policy.now.answers) c.args.document c.in_ok-plan.plan c.in_ok-drawn.drawn c.in_ok-plan.ensures.gives c.in_ok-drawn.ensures.script

pub returns-clause-safe : goal.returns-clause-safe
returns-clause-safe g c =
    sealed-drawn c.args.shape.now (rank_by c.args.policy.now.answers) c.args.document c.in_ok-plan.plan c.in_ok-drawn.drawn c.in_ok-plan.ensures.sealed
    c.in_ok-drawn.ensures.script c.in_ok-drawn.ensures.happens
