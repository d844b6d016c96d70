use Rattle.std.proofs.Common.{◌≤◌, length, ap, subst, arith}
use Rattle.wan_edge.specs.Streams.{Rose, SinkTrace}
use Rattle.switch_agent.specs.declared.guest_read.GuestRead.{GuestRead}
use Rattle.switch_agent.proofs.Pieces.{guest_failed, guest_heard, read_end, read_no_write}
use Rattle.switch_agent.proofs.hearing.serve_into.Goals as goal

pub serve_some-requires-clause-end : goal.serve_some-requires-clause-end
serve_some-requires-clause-end g c = λ none.
    let inside : c.in-Ok.n ≤ length c.read_some.new.buffer = omega (arith, c.in-Ok.ensures.within.1, c.read_some.auto.buffer) in
    read_end c.in-Ok.n c.read_some.new.buffer (g.G.Source.told c.args.guest.now) (g.G.Source.told c.read_some.new.guest) c.in-Ok.ensures.given inside none

pub returns-in-Ok-clause-heard : goal.returns-in-Ok-clause-heard
returns-in-Ok-clause-heard g c =
    let parts = c.into_parts-reader in
    let inside : c.in-Ok.n ≤ length c.read_some.new.buffer = omega (arith, c.in-Ok.ensures.within.1, c.read_some.auto.buffer) in
    guest_heard c.args.agent.now c.serve_some.new.agent c.args.talk parts.result.0.kept parts.result.1 c.in-Ok.n c.read_some.new.buffer (g.G.Source.told c.args.guest.now) (g.G.Source.told c.read_some.new.guest) (g.G.Source.told c.serve_some.new.guest)
    c.serve_some.result (g.G.Sink.told c.args.guest.now) (g.G.Sink.told c.read_some.new.guest) (g.G.Sink.told c.serve_some.new.guest).written parts.ensures.kept parts.ensures.room c.serve_some.ensures.unread c.read_some.ensures.unwritten
    c.in-Ok.ensures.given c.in-Ok.ensures.within.0 inside c.serve_some.ensures.hears

pub returns-in-Ok-clause-some : goal.returns-in-Ok-clause-some
returns-in-Ok-clause-some g c = omega (arith, c.into_parts-reader.ensures.some, c.into_parts-reader.ensures.room)

pub returns-in-Err-clause-some : goal.returns-in-Err-clause-some
returns-in-Err-clause-some g c = omega (arith, c.into_parts-reader.ensures.some, c.into_parts-reader.ensures.room)

pub returns-in-Ok-clause-read_cause : goal.returns-in-Ok-clause-read_cause
returns-in-Ok-clause-read_cause g c = λ is. absurd (c.serve_some.ensures.unfailed is)

pub returns-in-Ok-clause-write_cause : goal.returns-in-Ok-clause-write_cause
returns-in-Ok-clause-write_cause g c = λ is. subst (λ (s : SinkTrace). Rose s.faults (g.G.Sink.told c.serve_some.new.guest).faults) c.read_some.ensures.unwritten (c.serve_some.ensures.write_cause is)

pub returns-in-Err-clause-heard : goal.returns-in-Err-clause-heard
returns-in-Err-clause-heard g c =
    let parts = c.into_parts-reader in
    guest_failed c.args.agent.now c.args.talk parts.result.0.kept (g.G.Source.told c.args.guest.now) (g.G.Source.told c.read_some.new.guest) c.last.result (g.G.Sink.told c.args.guest.now) (g.G.Sink.told c.read_some.new.guest)
    parts.ensures.kept parts.ensures.cut c.read_some.ensures.unwritten c.in-Err.ensures.nothing c.last.ensures

pub returns-in-Err-clause-read_cause : goal.returns-in-Err-clause-read_cause
returns-in-Err-clause-read_cause g c = λ is. c.in-Err.ensures.nothing.cause

pub returns-in-Err-clause-write_cause : goal.returns-in-Err-clause-write_cause
returns-in-Err-clause-write_cause g c = λ is. absurd (read_no_write c.last.result.served.fault (ap (λ (h : GuestRead). h.served.fault) c.last.ensures) is)
