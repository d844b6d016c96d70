use Rattle.plan_texts.specs.Loads.{step_texts}
use Rattle.plan_texts.specs.Rows.{cell}
use Rattle.plan_texts.proofs.load_lines.push_steps.Given as goal

abbrev pub invariant-loop-step : goal.invariant-loop-step
invariant-loop-step g l = g.P.Pieces.pushes l.fn.text (step_texts (cell l.rows.taken l.place) (cell l.rows.most l.place) l.step) l.text
