use Rattle.std.proofs.lemmas.Bool.{ne_eqb}
use Rattle.text_writer.proofs.Pushing.{said_so}
use Rattle.plan_texts.proofs.Needs.{stood-none, stood-some}
use Rattle.plan_texts.proofs.need_texts.push_stood.Goals as goal

pub returns-then-stage-eq0 : goal.returns-then-stage-eq0
returns-then-stage-eq0 g c = said_so g.P.Pieces.pushes (stood-none c.args.item c.args.stage c.if-stage-eq0.true) (g.met.P.Pieces.nothing_pushed c.args.text.now)

pub returns : goal.returns
returns g c = said_so g.P.Pieces.pushes (stood-some c.args.item c.args.stage (ne_eqb c.args.stage 0 c.if-stage-eq0.false)) c.push_at_stage.ensures
