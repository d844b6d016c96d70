use Rattle.std.proofs.Common.{IfOk, IfSome, sym, subst}
use Rattle.text_commands.specs.Answers.{claimed_line}
use Rattle.text_commands.specs.Runs.{Gives}
use Rattle.text_commands.specs.Safety.{HasLeast}
use Rattle.text_commands.proofs.Claims.{ok-anyway}
use Rattle.text_commands.proofs.texts.check.line_of.Goals as goal

pub returns-in-Some-clause-gives : goal.returns-in-Some-clause-gives
returns-in-Some-clause-gives c = subst (λ x. Gives c.said_line.result (claimed_line c.args.plan.now x)) (sym c.in-Some.is) c.said_line.ensures.gives

pub returns-in-Some-clause-least : goal.returns-in-Some-clause-least
returns-in-Some-clause-least c =
    subst (λ x. IfOk c.said_line.result (λ text. IfSome x (λ said. HasLeast c.args.plan.now.problem c.args.plan.now.plan))) (sym c.in-Some.is) c.said_line.ensures.least

pub returns-in-None-clause-gives : goal.returns-in-None-clause-gives
returns-in-None-clause-gives c = subst (λ x. Gives c.line_with.result (claimed_line c.args.plan.now x)) (sym c.in-None.is) c.line_with.ensures

pub returns-in-None-clause-least : goal.returns-in-None-clause-least
returns-in-None-clause-least c =
    subst (λ x. IfOk c.line_with.result (λ text. IfSome x (λ said. HasLeast c.args.plan.now.problem c.args.plan.now.plan))) (sym c.in-None.is) (ok-anyway c.line_with.result _ tt)
