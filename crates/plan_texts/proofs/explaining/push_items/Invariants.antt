use Rattle.plan_texts.specs.Explain.{lines_of_items}
use Rattle.plan_texts.proofs.explaining.push_items.Given as goal

abbrev pub invariant-loop-number : goal.invariant-loop-number
invariant-loop-number g l = g.P.Pieces.pushes l.fn.text (lines_of_items l.plan.problem l.plan.plan l.number) l.text
