use Rattle.std.proofs.Common.{List, ℕ, subst}
use Rattle.lists.proofs.Results.{on_err}
use Rattle.wan_edge.specs.Ports.{AppendsFront}
use Rattle.wan_edge.specs.Streams.{Appends}
use Rattle.fenced_ports.specs.Framing.{SendsFront}
use Rattle.fenced_ports.specs.declared.unsent.Unsent.TheVariants as unsent
use Rattle.fenced_ports.proofs.Framed.{sends-all, sends-front, sends-none}
use Rattle.fenced_ports.proofs.framing.send_framed.Goals as goal

pub returns-in_err-frame_all-clause-err : goal.returns-in_err-frame_all-clause-err
returns-in_err-frame_all-clause-err g c =
    let before = (g.T.Port.told c.args.port.now).offered in
    on_err c.from_residual.result c.in_err-frame_all.field-0.0 (SendsFront c.args.term c.args.reader.now.kept c.args.from.now before before) c.from_residual.ensures.1 (sends-none c.args.term c.args.reader.now.kept c.args.from.now before)

pub returns-in_err-offer-clause-err : goal.returns-in_err-offer-clause-err
returns-in_err-offer-clause-err g c =
    let tell = g.T.Port.told in
    let before = (tell c.args.port.now).offered in
    let now = (tell c.offer.new.self).offered in
    let front = subst (λ (xs : List ℕ). AppendsFront before xs now) c.as_slice.ensures.value c.in_err-offer.ensures.part.offered in
    on_err c.from_residual-in_err-offer.result unsent.Port (SendsFront c.args.term c.args.reader.now.kept c.args.from.now before now) c.from_residual-in_err-offer.ensures.1
    (sends-front c.args.term c.args.reader.now.kept c.args.from.now c.frame_all.new.reader.kept c.frame_all.new.out.items before now c.in_ok-frame_all.ensures.ok front)

pub returns-clause-ok : goal.returns-clause-ok
returns-clause-ok g c =
    let tell = g.T.Port.told in
    let before = (tell c.args.port.now).offered in
    let now = (tell c.offer.new.self).offered in
    let went = subst (λ (xs : List ℕ). Appends before xs now) c.as_slice.ensures.value c.in_ok-offer.ensures.all.offered in
    sends-all c.args.term c.args.reader.now.kept c.args.from.now c.frame_all.new.reader.kept c.frame_all.new.out.items before now c.in_ok-frame_all.ensures.ok went
