use Rattle.std.proofs.Common.{◌≤◌, length, ap, arith}
use Rattle.wan_edge.specs.Streams.{Rose}
use Rattle.fenced_agent.specs.Agents.{fenced_holding}
use Rattle.agent_talks.specs.declared.heard.Heard.{Heard}
use Rattle.switch_agent.proofs.Pieces.{read_end, read_no_write}
use Rattle.agent_talks.proofs.Pieces.{guest_failed}
use Rattle.fenced_wire.specs.Reading.{all_kept}
use Rattle.agent_service.proofs.KeptRows.{come_still, kept_heard, kept_read_cause, kept_write_cause}
use Rattle.agent_service.proofs.keeping.keep_into.Goals as goal

pub keep_some-requires-clause-end : goal.keep_some-requires-clause-end
keep_some-requires-clause-end g c = λ none.
    let inside : c.in-Ok.n ≤ length c.read_some.new.buffer = omega (arith, c.in-Ok.ensures.within.1, c.read_some.auto.buffer) in
    read_end c.in-Ok.n c.read_some.new.buffer (g.G.Source.told c.args.guest.now) (g.G.Source.told c.read_some.new.guest) c.in-Ok.ensures.given inside none

-- bytes came, or the end
pub returns-in-Ok-clause-heard : goal.returns-in-Ok-clause-heard
returns-in-Ok-clause-heard g c =
    let parts = c.into_parts-reader in
    let inside : c.in-Ok.n ≤ length c.read_some.new.buffer = omega (arith, c.in-Ok.ensures.within.1, c.read_some.auto.buffer) in
    kept_heard c.keep_some.result c.args.agent.now c.keep_some.new.agent c.args.talk (all_kept parts.result.0) parts.result.1 c.in-Ok.n c.read_some.new.buffer (g.G.Source.told c.args.guest.now) (g.G.Source.told c.read_some.new.guest) (g.G.Source.told c.keep_some.new.guest)
    (g.G.Sink.told c.args.guest.now) (g.G.Sink.told c.read_some.new.guest) (g.G.Sink.told c.keep_some.new.guest).written parts.ensures.kept parts.ensures.room c.keep_some.ensures.unread c.read_some.ensures.unwritten
    c.in-Ok.ensures.given c.in-Ok.ensures.within.0 inside c.keep_some.ensures.hears

pub returns-in-Ok-clause-some : goal.returns-in-Ok-clause-some
returns-in-Ok-clause-some g c = omega (arith, c.into_parts-reader.ensures.some, c.into_parts-reader.ensures.room)

pub returns-in-Ok-clause-read_cause : goal.returns-in-Ok-clause-read_cause
returns-in-Ok-clause-read_cause g c = kept_read_cause c.keep_some.result (Rose (g.G.Source.told c.args.guest.now).faults (g.G.Source.told c.keep_some.new.guest).faults) c.keep_some.ensures.unfailed

pub returns-in-Ok-clause-write_cause : goal.returns-in-Ok-clause-write_cause
returns-in-Ok-clause-write_cause g c = kept_write_cause c.keep_some.result (g.G.Sink.told c.args.guest.now) (g.G.Sink.told c.read_some.new.guest) (g.G.Sink.told c.keep_some.new.guest) c.read_some.ensures.unwritten c.keep_some.ensures.write_cause

-- the read failed
pub returns-in-Err-clause-heard : goal.returns-in-Err-clause-heard
returns-in-Err-clause-heard g c =
    let parts = c.into_parts-reader in
    guest_failed c.args.agent.now c.args.talk (all_kept parts.result.0) (g.G.Source.told c.args.guest.now) (g.G.Source.told c.read_some.new.guest) c.last.result (g.G.Sink.told c.args.guest.now) (g.G.Sink.told c.read_some.new.guest)
    parts.ensures.kept parts.ensures.cut c.read_some.ensures.unwritten c.in-Err.ensures.nothing c.last.ensures

pub returns-in-Err-clause-some : goal.returns-in-Err-clause-some
returns-in-Err-clause-some g c = omega (arith, c.into_parts-reader.ensures.some, c.into_parts-reader.ensures.room)

pub returns-in-Err-clause-any_moment : goal.returns-in-Err-clause-any_moment
returns-in-Err-clause-any_moment g c = come_still g.D.Disk.told c.args.disk.now c.args.place (fenced_holding c.args.agent.now) (g.met.D.Disk.only_now c.args.disk.now) c.requires.kept

pub returns-in-Err-clause-read_cause : goal.returns-in-Err-clause-read_cause
returns-in-Err-clause-read_cause g c = λ is. c.in-Err.ensures.nothing.cause

pub returns-in-Err-clause-write_cause : goal.returns-in-Err-clause-write_cause
returns-in-Err-clause-write_cause g c = λ is. absurd (read_no_write c.last.result.served.fault (ap (λ (h : Heard). h.served.fault) c.last.ensures) is)
