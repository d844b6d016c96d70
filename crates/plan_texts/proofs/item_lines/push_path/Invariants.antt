use Rattle.std.specs.List.{flat_map}
use Rattle.rollout_rules.specs.Sums.{list_below}
use Rattle.plan_texts.specs.Explain.{hop_text}
use Rattle.plan_texts.proofs.item_lines.push_path.Given as goal

abbrev pub invariant-loop-hop : goal.invariant-loop-hop
invariant-loop-hop g l = g.P.Pieces.pushes l.fn.text (flat_map (hop_text l.problem l.tunnel) (list_below l.hop (λ h. h))) l.text
