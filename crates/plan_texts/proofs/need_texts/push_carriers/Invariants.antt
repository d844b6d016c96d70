use Rattle.std.proofs.Common.{◌+◌}
use Rattle.std.specs.List.{flat_map}
use Rattle.rollout_rules.specs.Sums.{list_below}
use Rattle.rollout_rules.specs.Wan.{tunnel_of}
use Rattle.plan_texts.specs.Explain.{needs_text}
use Rattle.plan_texts.specs.Needs.{carrier_needs}
use Rattle.plan_texts.proofs.need_texts.push_carriers.Given as goal

abbrev pub invariant-loop-j : goal.invariant-loop-j
invariant-loop-j g l =
    g.P.Pieces.pushes l.fn.text (needs_text l.plan.problem (flat_map (carrier_needs l.plan.problem l.plan.plan (l.s + 1)) (list_below l.j (tunnel_of l.plan.problem l.flow)))) l.text
