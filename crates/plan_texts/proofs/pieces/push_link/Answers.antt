use Rattle.text_writer.proofs.Pushing.{at_value}
use Rattle.wan_text.specs.Names.{switch_text}
use Rattle.plan_texts.proofs.Pushes.{by_three}
use Rattle.plan_texts.proofs.pieces.push_link.Goals as goal

pub returns : goal.returns
returns g c =
    let p = c.args.problem.now in
    by_three g.P.Pieces.pushes g.met.P.Pieces.pushed_further
    (at_value g.P.Pieces.pushes (switch_text p) c.ends_of-from.ensures.from (c.push_switch.ensures p c.requires)) c.push_str.ensures
    (at_value g.P.Pieces.pushes (switch_text p) c.ends_of-from.ensures.to (c.push_switch-2.ensures p c.requires))
