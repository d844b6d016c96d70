use Rattle.rollout_rules.proofs.OverItems.{is_item-flow}
use Rattle.text_writer.proofs.Pushing.{at_value}
use Rattle.plan_texts.specs.Explain.{home_text}
use Rattle.plan_texts.proofs.Pushes.{by_three}
use Rattle.plan_texts.proofs.item_lines.push_split.Goals as goal

pub home_of_item-home-requires : goal.home_of_item-home-requires
home_of_item-home-requires g c = is_item-flow c.args.problem.now c.args.flow c.requires.flow

pub returns : goal.returns
returns g c =
    let p = c.args.problem.now in
    by_three g.P.Pieces.pushes g.met.P.Pieces.pushed_further (c.push_flow.ensures p c.requires.names) c.push_str.ensures
    (at_value g.P.Pieces.pushes (home_text p) c.home_of_item-home.ensures.home (c.push_home.ensures p c.requires.names))
