use Rattle.std.proofs.Common.{◌≡◌, ap, arith}
use Rattle.text_writer.proofs.Pushing.{said_so}
use Rattle.plan_texts.specs.Loads.{step_texts}
use Rattle.plan_texts.specs.Rows.{cell}
use Rattle.plan_texts.proofs.Pushes.{step-pushed}
use Rattle.plan_texts.proofs.load_lines.push_steps.Goals as goal

pub read-taken-requires-clause-stage : goal.read-taken-requires-clause-stage
read-taken-requires-clause-stage g c = omega (arith, c.requires.taken.count, c.loop-step-test.true)

pub read-taken-requires-clause-place : goal.read-taken-requires-clause-place
read-taken-requires-clause-place g c = c.requires.taken.each c.loop-step.step (omega (arith, c.loop-step-test.true))

pub read-most-requires-clause-stage : goal.read-most-requires-clause-stage
read-most-requires-clause-stage g c = omega (arith, c.requires.most.count, c.loop-step-test.true)

pub read-most-requires-clause-place : goal.read-most-requires-clause-place
read-most-requires-clause-place g c = c.requires.most.each c.loop-step.step (omega (arith, c.loop-step-test.true))

pub loop-step-init : goal.loop-step-init
loop-step-init g c = g.met.P.Pieces.nothing_pushed c.args.text.now

pub loop-step-preserved : goal.loop-step-preserved
loop-step-preserved g c =
    step-pushed g.P.Pieces.pushes g.met.P.Pieces.pushed_further (cell c.args.rows.now.taken c.args.place) (cell c.args.rows.now.most c.args.place) c.loop-step.step c.read-taken.result c.read-most.result
    c.read-taken.ensures c.read-most.ensures c.loop-step.invariant c.push_step.ensures

pub returns : goal.returns
returns g c =
    let all : c.loop-step.step ≡ c.args.steps = grind arith in
    said_so g.P.Pieces.pushes (ap (λ n. step_texts (cell c.args.rows.now.taken c.args.place) (cell c.args.rows.now.most c.args.place) n) all) c.loop-step.invariant
