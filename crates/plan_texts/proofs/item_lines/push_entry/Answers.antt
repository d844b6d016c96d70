use Rattle.rollout_rules.proofs.OverItems.{entry-is_item}
use Rattle.text_writer.proofs.Pushing.{at_value}
use Rattle.wan_text.specs.Names.{switch_text}
use Rattle.plan_texts.proofs.Pushes.{by_four}
use Rattle.plan_texts.proofs.item_lines.push_entry.Goals as goal

pub switch_of-requires-clause-tunnel : goal.switch_of-requires-clause-tunnel
switch_of-requires-clause-tunnel g c = (entry-is_item c.args.problem.now c.args.tunnel c.args.hop c.requires.item).row

pub switch_of-requires-clause-hop : goal.switch_of-requires-clause-hop
switch_of-requires-clause-hop g c = (entry-is_item c.args.problem.now c.args.tunnel c.args.hop c.requires.item).hop

pub push_tunnel-requires-clause-tunnel : goal.push_tunnel-requires-clause-tunnel
push_tunnel-requires-clause-tunnel g c = (entry-is_item c.args.problem.now c.args.tunnel c.args.hop c.requires.item).row

pub returns : goal.returns
returns g c =
    let p = c.args.problem.now in
    by_four g.P.Pieces.pushes g.met.P.Pieces.pushed_further c.push_str.ensures
    (at_value g.P.Pieces.pushes (switch_text p) c.switch_of.ensures.value (c.push_switch.ensures p c.requires.names)) c.push_str-2.ensures c.push_tunnel.ensures
