use Rattle.rollout_rules.specs.Sums.{list_below}
use Rattle.plan_texts.specs.Explain.{needs_text}
use Rattle.plan_texts.specs.Needs.{entry_need}
use Rattle.plan_texts.proofs.need_texts.push_entries.Given as goal

abbrev pub invariant-loop-hop : goal.invariant-loop-hop
invariant-loop-hop g l = g.P.Pieces.pushes l.fn.text (needs_text l.plan.problem (list_below l.hop (entry_need l.tunnel l.stage))) l.text
