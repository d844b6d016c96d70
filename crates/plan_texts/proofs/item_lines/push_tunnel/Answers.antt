use Rattle.text_writer.proofs.Pushing.{at_value}
use Rattle.plan_texts.specs.Explain.{flow_text, place_text}
use Rattle.plan_texts.proofs.Pushes.{by_three}
use Rattle.plan_texts.proofs.item_lines.push_tunnel.Goals as goal

pub returns : goal.returns
returns g c =
    let p = c.args.problem.now in
    by_three g.P.Pieces.pushes g.met.P.Pieces.pushed_further
    (at_value g.P.Pieces.pushes (flow_text p) c.flow_of.ensures.value (c.push_flow.ensures p c.requires.names))
    (at_value g.P.Pieces.pushes place_text c.place_in_flow.ensures c.push_place.ensures) c.push_path.ensures
