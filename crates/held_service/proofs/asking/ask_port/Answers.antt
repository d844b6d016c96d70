use Rattle.std.proofs.Common.{length, ap, sym, ◌∙◌, arith, rules}
use Rattle.wire_frames.specs.Reading.{Reader}
use Rattle.held_service.specs.Noting.{Notes}
use Rattle.held_service.proofs.Noted.{length-with}
use Rattle.held_service.proofs.Talked.{cut-off, spent-at, talks-none, talks-on, told-all}
use Rattle.held_service.proofs.asking.ask_port.Goals as goal

pub loop-item-init : goal.loop-item-init
loop-item-init g c = record {
  live = ap (λ (r : Reader). r.live) c.new-reader.ensures.new;
  cut = c.new-reader.ensures.cut;
  rows = c.requires;
  within = omega arith;
  talks = talks-none c.args.migration c.args.homes.now c.args.switch c.args.items.now c.args.notes.now c.new-reader.result.kept (g.T.Port.told c.args.port.now) (ap (λ (r : Reader). r.kept) c.new-reader.ensures.new);
}

pub loop-item-preserved : goal.loop-item-preserved
loop-item-preserved g c =
    let tell = g.T.Port.told in
    let i = c.loop-item.invariant in
    let asks = c.in_ok-ask_round.ensures.ok in
    record {
      live = c.in_ok-ask_round.ensures.live;
      cut = c.in_ok-ask_round.ensures.cut;
      rows = ap (λ (ns : Notes). length ns) asks.noted ∙ length-with c.loop-item.notes asks.round.answers ∙ i.rows;
      within = omega (arith, c.if-round-rounds.false);
      talks = talks-on c.args.migration c.args.homes.now c.args.switch c.args.items.now c.args.notes.now c.loop-item.round (tell c.args.port.now) (tell c.loop-item.port) (tell c.ask_round.new.port) c.loop-item.reader.kept c.ask_round.new.reader.kept c.loop-item.notes c.ask_round.new.notes
          i.talks asks;
    }

pub loop-item-smaller : goal.loop-item-smaller
loop-item-smaller g c = omega (arith, c.if-round-rounds.false)

pub returns-then-round-rounds : goal.returns-then-round-rounds
returns-then-round-rounds g c =
    let tell = g.T.Port.told in
    let i = c.loop-item.invariant in
    spent-at c.args.migration c.args.homes.now c.args.switch c.args.items.now c.args.notes.now c.fit_frames.ensures.migration c.fit_frames.ensures.items c.loop-item.round (tell c.args.port.now) (tell c.loop-item.port) c.loop-item.reader.kept c.loop-item.notes i.talks
    c.args.rounds c.in-Some.item (omega (arith, i.within, c.if-round-rounds.true)) (sym c.first_untold.ensures ∙ c.in-Some.is)

pub returns-in_err-ask_round : goal.returns-in_err-ask_round
returns-in_err-ask_round g c =
    let tell = g.T.Port.told in
    let i = c.loop-item.invariant in
    cut-off c.args.migration c.args.homes.now c.args.switch c.args.items.now c.args.notes.now c.fit_frames.ensures.migration c.fit_frames.ensures.items c.loop-item.round (tell c.args.port.now) (tell c.loop-item.port) c.loop-item.reader.kept c.loop-item.notes i.talks
    c.from_residual.result c.args.rounds (tell c.ask_round.new.port) c.ask_round.new.notes c.in_err-ask_round.field-0.0 (omega (arith, c.if-round-rounds.false)) c.in_err-ask_round.ensures.err c.from_residual.ensures.1

pub returns : goal.returns
returns g c =
    let tell = g.T.Port.told in
    let i = c.loop-item.invariant in
    told-all c.args.migration c.args.homes.now c.args.switch c.args.items.now c.args.notes.now c.fit_frames.ensures.migration c.fit_frames.ensures.items c.loop-item.round (tell c.args.port.now) (tell c.loop-item.port) c.loop-item.reader.kept c.loop-item.notes i.talks
    c.args.rounds i.within (search rules)
