use Rattle.std.proofs.Common.{sym, subst, arith}
use Rattle.text_commands.specs.Answers.{shown_document, told_by}
use Rattle.text_commands.specs.Runs.{Gives}
use Rattle.text_commands.proofs.Leasts.{few-answer, few-gives, many-gives}
use Rattle.text_commands.proofs.texts.least.prove_steps.Goals as goal

pub returns-then-steps-q-clause-gives : goal.returns-then-steps-q-clause-gives
returns-then-steps-q-clause-gives c = many-gives c.args.plan.now.problem c.args.plan.now.plan c.args.q c.rate_steps-steps.result c.rate_steps-steps.ensures (omega (arith, c.if-steps-q.true))

pub returns-clause-gives : goal.returns-clause-gives
returns-clause-gives c =
    subst (λ r. Gives (told_by (shown_document c.args.plan.now) c.seek_proof.result) r)
    (sym (few-gives c.args.plan.now.problem c.args.plan.now.plan c.args.q c.rate_steps-steps.result c.rate_steps-steps.ensures (omega (arith, c.if-steps-q.false)))) c.seek_proof.ensures.gives

pub returns-clause-least : goal.returns-clause-least
returns-clause-least c =
    few-answer c.args.plan.now.problem c.args.plan.now.plan c.args.q c.rate_steps-steps.result c.seek_proof.result c.rate_steps-steps.ensures (omega (arith, c.if-steps-q.false)) c.seek_proof.ensures.least
