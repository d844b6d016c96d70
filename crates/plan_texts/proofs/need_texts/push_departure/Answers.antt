use Rattle.text_writer.proofs.Pushing.{said_so}
use Rattle.plan_texts.proofs.Needs.{arrival-told, departure-told}
use Rattle.plan_texts.proofs.need_texts.push_departure.Goals as goal

pub returns-then-mark : goal.returns-then-mark
returns-then-mark g c =
    let r = c.args.plan.now in
    said_so g.P.Pieces.pushes (arrival-told r.problem r.plan c.args.tunnel 0 c.args.s c.mark.result c.mark.ensures c.if-mark.true) (g.met.P.Pieces.nothing_pushed c.args.text.now)

pub returns : goal.returns
returns g c =
    let r = c.args.plan.now in
    said_so g.P.Pieces.pushes (departure-told r.problem r.plan c.args.tunnel 0 c.args.s c.flow_of.result c.idle_since-since.result c.mark.result c.mark.ensures c.if-mark.false c.flow_of.ensures.value c.idle_since-since.ensures) c.push_stood.ensures
