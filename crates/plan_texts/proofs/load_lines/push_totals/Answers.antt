use Rattle.std.proofs.Common.{arith}
use Rattle.text_writer.proofs.Pushing.{at_value}
use Rattle.plan_texts.specs.Loads.{last_text}
use Rattle.plan_texts.proofs.Pushes.{by_three}
use Rattle.plan_texts.proofs.load_lines.push_totals.Goals as goal

pub read-requires-clause-stage : goal.read-requires-clause-stage
read-requires-clause-stage g c = omega (arith, c.requires.taken.count)

pub read-requires-clause-place : goal.read-requires-clause-place
read-requires-clause-place g c = c.requires.taken.each c.args.steps (omega arith)

pub returns : goal.returns
returns g c = by_three g.P.Pieces.pushes g.met.P.Pieces.pushed_further c.push_capacity.ensures c.push_steps.ensures (at_value g.P.Pieces.pushes last_text c.read.ensures c.push_last.ensures)
