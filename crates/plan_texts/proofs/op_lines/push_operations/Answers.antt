use Rattle.std.proofs.Common.{◌≡◌, ap, arith}
use Rattle.rollout_laws.proofs.Standing.{stand-left, stand-most}
use Rattle.text_writer.proofs.Pushing.{at_value, said_so}
use Rattle.plan_texts.specs.Explain.{step_line, op_line, op_lines}
use Rattle.plan_texts.proofs.Pushes.{row-pushed}
use Rattle.plan_texts.proofs.op_lines.push_operations.Goals as goal

pub push_step-requires-clause-stage : goal.push_step-requires-clause-stage
push_step-requires-clause-stage g c =
    let r = c.args.plan.now in
    omega (arith, c.loop-before.invariant.stands, stand-left r.problem r.plan c.args.item c.loop-before.before (omega (arith, c.loop-before-test.true, c.requires.all)))

pub stand_behind-stage-requires-clause-stage : goal.stand_behind-stage-requires-clause-stage
stand_behind-stage-requires-clause-stage g c =
    let r = c.args.plan.now in
    omega (arith, c.loop-before.invariant.stands, stand-most r.problem r.plan c.args.item c.loop-before.before)

pub loop-before-init : goal.loop-before-init
loop-before-init g c = record {
  told = g.met.P.Pieces.nothing_pushed c.args.text.now;
  stands = c.stand_after-stage.ensures;
}

pub loop-before-preserved : goal.loop-before-preserved
loop-before-preserved g c =
    let r = c.args.plan.now in
    record {
      told =
          row-pushed g.P.Pieces.pushes g.met.P.Pieces.pushed_further (op_line r.problem r.plan c.args.number c.args.item) (λ j. j) c.loop-before.before c.loop-before.invariant.told
          (at_value g.P.Pieces.pushes (λ s. step_line r.problem r.plan c.args.number c.args.item c.loop-before.before s) c.loop-before.invariant.stands c.push_step.ensures);
      stands = c.stand_behind-stage.ensures c.loop-before.before c.loop-before.invariant.stands;
    }

pub returns : goal.returns
returns g c =
    let r = c.args.plan.now in
    let all : c.loop-before.before ≡ c.args.count = grind arith in
    said_so g.P.Pieces.pushes (ap (λ n. op_lines r.problem r.plan c.args.number c.args.item n) all) c.loop-before.invariant.told
