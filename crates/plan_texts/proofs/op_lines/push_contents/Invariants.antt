use Rattle.rollout_rules.specs.Sums.{list_below}
use Rattle.rollout_rules.specs.Wan.{rate_at, tunnel_of}
use Rattle.plan_texts.specs.Explain.{contents_text}
use Rattle.plan_texts.proofs.op_lines.push_contents.Given as goal

abbrev pub invariant-loop-j : goal.invariant-loop-j
invariant-loop-j g l = g.P.Pieces.pushes l.fn.text (contents_text (list_below l.j (λ j. rate_at l.plan.plan l.s (tunnel_of l.plan.problem l.flow j)))) l.text
