use Rattle.text_writer.proofs.Pushing.{said_so, both}
use Rattle.plan_texts.specs.Loads.{greatest_total, room_of, fullest_step}
use Rattle.plan_texts.proofs.Lines.{share-same}
use Rattle.plan_texts.proofs.fullest.push_fullness.Goals as goal

pub returns : goal.returns
returns g c =
    let p = c.args.problem.now in
    let plan = c.args.plan.now in
    let l = c.args.link in
    both g.P.Pieces.pushes g.met.P.Pieces.pushed_further c.push_link.ensures
    (said_so g.P.Pieces.pushes
    (share-same c.greatest_total-total.result c.room_of-room.result c.fullest_step-step.result (greatest_total p plan l) (room_of p plan l) (fullest_step p plan l)
    c.greatest_total-total.ensures c.room_of-room.ensures c.fullest_step-step.ensures.value)
    c.push_share.ensures)
