use Rattle.std.proofs.Common.{length, ap}
use Rattle.port_session.specs.Sessions.{awaited_behind}
use Rattle.switch_ports.specs.Offering.{Offers}
use Rattle.switch_ports.specs.Views.{view}
use Rattle.switch_ports.proofs.Told.{all_sent, offers, until_sent}
use Rattle.switch_ports.proofs.exchange.offer_at.Goals as goal

pub returns-in-Ok-clause-some : goal.returns-in-Ok-clause-some
returns-in-Ok-clause-some g c =
    let said = c.offer_all.ensures in
    offers g.T.Port.told
    c.args.migration c.args.commands.now c.args.session.now c.offer_all.new.self (awaited_behind c.args.session.now.stream.awaited (length c.args.commands.now)) c.in-Ok.ensures.awaits (all_sent _ _ _ c.in-Ok.ensures.all)
    said.unheard said.no_hear said.port

pub returns-in-Ok-clause-all : goal.returns-in-Ok-clause-all
returns-in-Ok-clause-all g c = record {
  some = returns-in-Ok-clause-some g c;
  all = c.in-Ok.ensures.all;
  awaits = ap (λ t. t.stream.awaited) c.in-Ok.ensures.awaits;
}

pub returns-in-Err-clause-some : goal.returns-in-Err-clause-some
returns-in-Err-clause-some g c =
    let said = c.offer_all.ensures in
    offers g.T.Port.told
    c.args.migration c.args.commands.now c.args.session.now c.offer_all.new.self 0 c.in-Err.ensures.awaits_none (until_sent c.in-Err.fault _ _ _ c.in-Err.ensures.until)
    said.unheard said.no_hear said.port
