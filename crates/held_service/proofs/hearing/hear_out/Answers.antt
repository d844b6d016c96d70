use Rattle.std.proofs.Common.{Bool, List, ℕ, length, sym, ap, subst, ◌∙◌, arith}
use Rattle.port_session.proofs.Chaining.{if_err}
use Rattle.held_service.specs.Hearing.{HearsNext, HearsOut, StopsHearing}
use Rattle.held_service.specs.Noting.{Notes}
use Rattle.held_service.specs.declared.not_told.NotTold.{NotTold}
use Rattle.held_service.proofs.Heard.{falls, hears-all, hears-no-more, hears-on, hears-quiet, stops-on}
use Rattle.held_service.proofs.Noted.{length-with}
use Rattle.held_service.proofs.hearing.hear_out.Goals as goal

pub loop-left-init : goal.loop-left-init
loop-left-init g c = record {
  live = c.requires.live;
  cut = c.requires.cut;
  rows = c.requires.rows;
  hears = hears-no-more c.args.homes.now c.args.switch c.args.asked c.args.reader.now.kept c.args.notes.now (g.T.Port.told c.args.port.now);
}

pub loop-left-preserved : goal.loop-left-preserved
loop-left-preserved g c =
    let tell = g.T.Port.told in
    let homes = c.args.homes.now in
    let switch = c.args.switch in
    let i = c.loop-left.invariant in
    let next = subst (λ (b : Bool). HearsNext homes switch b c.loop-left.left c.hear_next.new.left c.loop-left.reader.kept c.loop-left.notes (tell c.loop-left.port) c.hear_next.new.reader.kept c.hear_next.new.notes (tell c.hear_next.new.port)) c.if-not-more.false c.in_ok-more.ensures.ok in
    record {
      live = c.in_ok-more.ensures.live;
      cut = c.in_ok-more.ensures.cut;
      rows = ap (λ (ns : Notes). length ns) next.hears.noted ∙ length-with c.loop-left.notes next.hears.answers ∙ i.rows;
      hears = hears-on homes switch c.args.asked c.loop-left.left c.args.reader.now.kept c.loop-left.reader.kept c.args.notes.now c.loop-left.notes (tell c.args.port.now) (tell c.loop-left.port) (tell c.hear_next.new.port) i.hears
          c.hear_next.new.left c.hear_next.new.reader.kept c.hear_next.new.notes next.hears;
    }

pub loop-left-smaller : goal.loop-left-smaller
loop-left-smaller g c =
    let tell = g.T.Port.told in
    let next = subst (λ (b : Bool). HearsNext c.args.homes.now c.args.switch b c.loop-left.left c.hear_next.new.left c.loop-left.reader.kept c.loop-left.notes (tell c.loop-left.port) c.hear_next.new.reader.kept c.hear_next.new.notes (tell c.hear_next.new.port)) c.if-not-more.false c.in_ok-more.ensures.ok in
    falls c.loop-left.left c.hear_next.new.left c.loop-left.reader.kept c.hear_next.new.reader.kept next.nearer c.loop-left.invariant.cut c.in_ok-more.ensures.cut (omega (arith, c.loop-left-test.true))

pub returns-in_err-more-clause-err : goal.returns-in_err-more-clause-err
returns-in_err-more-clause-err g c =
    let tell = g.T.Port.told in
    let homes = c.args.homes.now in
    let switch = c.args.switch in
    let why = c.in_err-more.field-0.0 in
    if_err c.from_residual.result why (λ (w : NotTold). StopsHearing homes switch w c.args.reader.now.kept (tell c.args.port.now) (tell c.hear_next.new.port)) c.from_residual.ensures.1
    (stops-on homes switch c.args.asked c.loop-left.left c.args.reader.now.kept c.loop-left.reader.kept c.args.notes.now c.loop-left.notes (tell c.args.port.now) (tell c.loop-left.port) (tell c.hear_next.new.port) c.loop-left.invariant.hears why c.in_err-more.ensures.err)

pub returns-then-not-more-clause-ok : goal.returns-then-not-more-clause-ok
returns-then-not-more-clause-ok g c =
    let tell = g.T.Port.told in
    let homes = c.args.homes.now in
    let switch = c.args.switch in
    let now = tell c.hear_next.new.port in
    let none = subst (λ (b : Bool). HearsNext homes switch b c.loop-left.left c.hear_next.new.left c.loop-left.reader.kept c.loop-left.notes (tell c.loop-left.port) c.hear_next.new.reader.kept c.hear_next.new.notes now) c.if-not-more.true c.in_ok-more.ensures.ok in
    let out = hears-quiet homes switch c.args.asked c.loop-left.left c.args.reader.now.kept c.loop-left.reader.kept c.args.notes.now c.loop-left.notes (tell c.args.port.now) (tell c.loop-left.port) now c.loop-left.invariant.hears (omega (arith, c.loop-left-test.true)) none.nothing in
    subst (λ (kept : List ℕ). HearsOut homes switch c.args.asked c.args.reader.now.kept c.args.notes.now (tell c.args.port.now) kept c.hear_next.new.notes now) (sym none.kept_is)
    (subst (λ (ns : Notes). HearsOut homes switch c.args.asked c.args.reader.now.kept c.args.notes.now (tell c.args.port.now) c.loop-left.reader.kept ns now) (sym none.notes_are) out)

pub returns-clause-ok : goal.returns-clause-ok
returns-clause-ok g c =
    let tell = g.T.Port.told in
    hears-all c.args.homes.now c.args.switch c.args.asked c.loop-left.left c.args.reader.now.kept c.loop-left.reader.kept c.args.notes.now c.loop-left.notes (tell c.args.port.now) (tell c.loop-left.port) (omega (arith, c.loop-left-test.false)) c.loop-left.invariant.hears
