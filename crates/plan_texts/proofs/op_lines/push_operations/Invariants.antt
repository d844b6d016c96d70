use Rattle.std.proofs.Common.{◌≡◌}
use Rattle.rollout_rules.specs.Operations.{stand_after}
use Rattle.plan_texts.specs.Explain.{op_lines}
use Rattle.plan_texts.proofs.op_lines.push_operations.Given as goal

abbrev pub invariant-loop-before : goal.invariant-loop-before
invariant-loop-before g l = record {
  told : g.P.Pieces.pushes l.fn.text (op_lines l.plan.problem l.plan.plan l.number l.item l.before) l.text;
  stands : l.stage ≡ stand_after l.plan.problem l.plan.plan l.item l.before;
}
