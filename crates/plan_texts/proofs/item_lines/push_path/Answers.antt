use Rattle.std.proofs.Common.{◌≡◌, length, ap, arith}
use Rattle.std.specs.List.{flat_map}
use Rattle.rollout_rules.specs.Sums.{list_below}
use Rattle.rollout_rules.specs.Wan.{hops}
use Rattle.text_writer.proofs.Pushing.{at_value, said_so, both}
use Rattle.wan_text.specs.Names.{switch_text}
use Rattle.plan_texts.specs.Explain.{hop_text}
use Rattle.plan_texts.proofs.Pushes.{row-pushed}
use Rattle.plan_texts.proofs.item_lines.push_path.Goals as goal

pub switch_of-requires-clause-hop : goal.switch_of-requires-clause-hop
switch_of-requires-clause-hop g c = omega (arith, c.loop-hop-test.true, ap length c.path-hop-end.ensures.list)

pub loop-hop-init : goal.loop-hop-init
loop-hop-init g c = g.met.P.Pieces.nothing_pushed c.args.text.now

pub loop-hop-preserved : goal.loop-hop-preserved
loop-hop-preserved g c =
    let p = c.args.problem.now in
    row-pushed g.P.Pieces.pushes g.met.P.Pieces.pushed_further (hop_text p c.args.tunnel) (λ h. h) c.loop-hop.hop c.loop-hop.invariant
    (both g.P.Pieces.pushes g.met.P.Pieces.pushed_further (at_value g.P.Pieces.pushes (λ t. t) c.gap_before.ensures c.push_str.ensures)
    (at_value g.P.Pieces.pushes (switch_text p) c.switch_of.ensures.value (c.push_switch.ensures p c.requires.names)))

pub returns : goal.returns
returns g c =
    let p = c.args.problem.now in
    let all : c.loop-hop.hop ≡ hops p c.args.tunnel = omega (arith, c.loop-hop-test.false, c.loop-hop.auto.hop-end, ap length c.path-hop-end.ensures.list) in
    said_so g.P.Pieces.pushes (ap (λ n. flat_map (hop_text p c.args.tunnel) (list_below n (λ h. h))) all) c.loop-hop.invariant
