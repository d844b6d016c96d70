use Rattle.std.proofs.Common.{eq-eqb}
use Rattle.std.proofs.lemmas.Bool.{ne_eqb}
use Rattle.text_writer.proofs.Pushing.{said_so}
use Rattle.plan_texts.proofs.Needs.{carrier-none, carrier-some}
use Rattle.plan_texts.proofs.need_texts.push_carrier.Goals as goal

pub returns-then-rate-eq0 : goal.returns-then-rate-eq0
returns-then-rate-eq0 g c =
    let r = c.args.plan.now in
    said_so g.P.Pieces.pushes (carrier-none r.problem r.plan c.args.s c.args.tunnel c.rate.result c.rate.ensures (eq-eqb c.rate.result 0 c.if-rate-eq0.true)) (g.met.P.Pieces.nothing_pushed c.args.text.now)

pub returns : goal.returns
returns g c =
    let r = c.args.plan.now in
    said_so g.P.Pieces.pushes (carrier-some r.problem r.plan c.args.s c.args.tunnel c.rate.result c.installed_since-since.result c.rate.ensures (ne_eqb c.rate.result 0 c.if-rate-eq0.false) c.installed_since-since.ensures) c.push_entries.ensures
