use Rattle.std.proofs.Common.{[], take, ◌∙◌, subst}
use Rattle.wan_edge.specs.Ports.{GoesOn}
use Rattle.wan_edge.proofs.Chains.{Appends-nothing, goes_once, stays}
use Rattle.port_session.specs.Sessions.{SessionView}
use Rattle.port_session.proofs.session.Session.offer_all.Goals as goal

pub returns-then-is_empty-clause-port : goal.returns-then-is_empty-clause-port
returns-then-is_empty-clause-port g c = stays (g.T.Port.told c.args.self.now.port)

pub returns-in_err-offer-clause-port : goal.returns-in_err-offer-clause-port
returns-in_err-offer-clause-port g c =
    let tell = g.T.Port.told in
    let fails = c.in_err-offer.ensures.part in
    subst (λ (t : SessionView g.row.T.Denot). GoesOn (tell t.port) (tell c.offer.new.self)) c.self.view_is
    (goes_once (tell c.self.inside.port) (tell c.offer.new.self) (take fails.offered.count c.as_slice.result.now) [] fails.offered.appended (fails.heard ∙ Appends-nothing (tell c.self.inside.port).heard) c.offer.ensures.step)

pub returns-clause-port : goal.returns-clause-port
returns-clause-port g c =
    let tell = g.T.Port.told in
    let sends = c.in_ok-offer.ensures.all in
    subst (λ (t : SessionView g.row.T.Denot). GoesOn (tell t.port) (tell c.offer.new.self)) c.self.view_is
    (goes_once (tell c.self.inside.port) (tell c.offer.new.self) c.as_slice.result.now [] sends.offered (sends.heard ∙ Appends-nothing (tell c.self.inside.port).heard) c.offer.ensures.step)
