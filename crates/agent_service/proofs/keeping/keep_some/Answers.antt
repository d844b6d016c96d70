use Rattle.std.proofs.Common.{◌-◌, ◌∙◌, length, sym, ap, subst, rules}
use Rattle.fenced_agent.specs.Agents.{fenced_holding}
use Rattle.agent_talks.specs.Serving.{HearsBytes}
use Rattle.agent_talks.specs.declared.heard.Heard.{Heard}
use Rattle.agent_talks.proofs.Pieces.{bytes_heard, end_heard, never_read, was_write}
use Rattle.fenced_wire.specs.Reading.{all_kept}
use Rattle.agent_service.proofs.KeptRows.{come_still}
use Rattle.agent_service.proofs.keeping.keep_some.Goals as goal

-- the end came
pub returns-then-is_empty-clause-hears : goal.returns-then-is_empty-clause-hears
returns-then-is_empty-clause-hears g c =
    end_heard c.args.agent.now (all_kept c.args.reader) c.args.piece.now c.args.room (g.G.Source.told c.args.guest.now).left (g.G.Sink.told c.args.guest.now).written c.last.result c.last.ensures c.requires.cut (search rules) c.requires.end

pub returns-then-is_empty-clause-any_moment : goal.returns-then-is_empty-clause-any_moment
returns-then-is_empty-clause-any_moment g c = come_still g.D.Disk.told c.args.disk.now c.args.place (fenced_holding c.args.agent.now) (g.met.D.Disk.only_now c.args.disk.now) c.requires.kept

-- bytes came
pub returns-clause-hears : goal.returns-clause-hears
returns-clause-hears g c =
    let served = c.in_ok-next.next.1 in
    let after = c.keep_read.new in
    let told = c.in_ok-next.ensures in
    subst (λ (h : Heard). HearsBytes c.args.agent.now after.agent (record { kept = all_kept c.args.reader; room = c.args.room }) c.args.piece.now h (g.G.Source.told c.args.guest.now).left (g.G.Sink.told c.args.guest.now).written (g.G.Sink.told after.guest).written) (sym c.behind-heard.ensures)
    (bytes_heard c.args.agent.now after.agent (all_kept c.args.reader) c.args.piece.now (all_kept after.reader) c.args.room (g.G.Source.told c.args.guest.now).left (g.G.Sink.told c.args.guest.now).written (g.G.Sink.told after.guest).written
    served told.carried told.own told.cut told.few (search rules))

pub returns-clause-unfailed : goal.returns-clause-unfailed
returns-clause-unfailed g c = λ is.
    let served = c.in_ok-next.next.1 in
    never_read served.commands served.fault (all_kept c.keep_read.new.reader) (c.args.room - length c.args.piece.now) c.in_ok-next.ensures.own (sym (ap (λ (h : Heard). h.served.fault) c.behind-heard.ensures) ∙ is)

pub returns-clause-write_cause : goal.returns-clause-write_cause
returns-clause-write_cause g c = λ is.
    let served = c.in_ok-next.next.1 in
    c.in_ok-next.ensures.write_cause (was_write served.commands served.fault (all_kept c.keep_read.new.reader) (c.args.room - length c.args.piece.now) (sym (ap (λ (h : Heard). h.served.fault) c.behind-heard.ensures) ∙ is))
