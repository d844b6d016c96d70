use Rattle.std.proofs.Common.{◌-◌, ◌∙◌, length, sym, ap, subst, rules}
use Rattle.switch_agent.specs.Serving.{HearsBytes}
use Rattle.switch_agent.specs.declared.guest_read.GuestRead.{GuestRead}
use Rattle.switch_agent.proofs.Pieces.{bytes_heard, end_heard, never_read, was_write}
use Rattle.switch_agent.proofs.hearing.serve_some.Goals as goal

pub returns-then-is_empty-clause-hears : goal.returns-then-is_empty-clause-hears
returns-then-is_empty-clause-hears g c =
    end_heard c.args.agent.now c.args.reader.kept c.args.piece.now c.args.room (g.G.Source.told c.args.guest.now).left (g.G.Sink.told c.args.guest.now).written c.last.result c.last.ensures c.requires.cut (search rules) c.requires.end

pub returns-clause-hears : goal.returns-clause-hears
returns-clause-hears g c =
    let served = c.serve_piece-served in
    subst (λ (h : GuestRead). HearsBytes c.args.agent.now served.new.agent (record { kept = c.args.reader.kept; room = c.args.room }) c.args.piece.now h (g.G.Source.told c.args.guest.now).left (g.G.Sink.told c.args.guest.now).written (g.G.Sink.told served.new.guest).written) (sym c.behind.ensures)
    (bytes_heard c.args.agent.now served.new.agent c.args.reader.kept c.args.piece.now served.new.reader.kept c.args.room (g.G.Source.told c.args.guest.now).left (g.G.Sink.told c.args.guest.now).written (g.G.Sink.told served.new.guest).written
    served.result served.ensures.carried served.ensures.own served.ensures.cut served.ensures.few (search rules))

pub returns-clause-unfailed : goal.returns-clause-unfailed
returns-clause-unfailed g c = λ is.
    let served = c.serve_piece-served in
    never_read served.result.commands served.result.fault served.new.reader.kept (c.args.room - length c.args.piece.now) served.ensures.own (sym (ap (λ (h : GuestRead). h.served.fault) c.behind.ensures) ∙ is)

pub returns-clause-write_cause : goal.returns-clause-write_cause
returns-clause-write_cause g c = λ is.
    let served = c.serve_piece-served in
    served.ensures.write_cause (was_write served.result.commands served.result.fault served.new.reader.kept (c.args.room - length c.args.piece.now) (sym (ap (λ (h : GuestRead). h.served.fault) c.behind.ensures) ∙ is))
