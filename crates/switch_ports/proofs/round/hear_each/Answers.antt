use Rattle.std.proofs.Common.{◌≡◌, List, ◌++◌, [], length, set, refl, sym, subst, ap, ◌∙◌, arith, append-nil, append_assoc}
use Rattle.std.specs.Prelude.{IsTrue}
use Rattle.switch_ports.specs.Hearing.{HearsOut, IsHearCause, Listens}
use Rattle.switch_ports.specs.Rows.{IsCauseOfHear}
use Rattle.switch_ports.specs.Views.{view}
use Rattle.switch_ports.proofs.Rowed.{HeardSoFar, SoFar, all_heard, all_live, at_one, heard_next, heard_so, in_all, in_all_with, of_next, of_one}
use Rattle.port_session.proofs.Chaining.{if_err}
use Rattle.switch_ports.proofs.Told.{listens_to_nothing}
use Rattle.switch_ports.proofs.round.hear_each.Goals as goal

pub loop-session-init : goal.loop-session-init
loop-session-init g c = ([], sym (append-nil c.args.heard.now.answers), (refl, refl), c.requires.migration)

pub hear_at-requires : goal.hear_at-requires
hear_at-requires g c =
    let tell = g.T.Port.told in
    record {
      live = of_next (λ a b. Listens (view tell a) (view tell b)) (λ s. IsTrue s.stream.live) c.loop-session.session-index c.args.sessions.now c.loop-session.sessions c.session-item.result
          (heard_so tell c.args.migration c.args.homes.now (λ a b. Listens (view tell a) (view tell b)) (λ a b mine out. out.listens) c.loop-session.session-index c.args.sessions.now c.loop-session.sessions c.loop-session.invariant.0 c.loop-session.invariant.2)
          (omega (arith, c.loop-session-test.true, c.loop-session.auto.sessions)) c.requires.live;
      migration = c.loop-session.invariant.3;
    }

pub loop-session-preserved : goal.loop-session-preserved
loop-session-preserved g c =
    let tell = g.T.Port.told in
    let heard = c.in_ok-hear_at.ensures.ok in
    let so = c.loop-session.invariant in (
      so.0 ++ heard.0,
      heard.1 ∙ ap (λ told. told ++ heard.0) so.1 ∙ append_assoc c.args.heard.now.answers so.0 heard.0,
      heard_next tell c.args.migration c.args.homes.now c.loop-session.session-index c.args.sessions.now c.loop-session.sessions so.0 heard.0 c.hear_at.new.session c.session-item.result so.2
          (omega (arith, c.loop-session-test.true, c.loop-session.auto.sessions)) heard.2,
      c.hear_at.ensures.migration,
    )

pub returns-in_err-hear_at-clause-each : goal.returns-in_err-hear_at-clause-each
returns-in_err-hear_at-clause-each g c =
    let tell = g.T.Port.told in
    in_all_with (λ a b. Listens (view tell a) (view tell b)) (λ a b. Listens (view tell a) (view tell b)) (λ a b l. l) (λ a. listens_to_nothing (view tell a)) c.loop-session.session-index c.args.sessions.now c.loop-session.sessions c.hear_at.new.session c.session-item.result
    (heard_so tell c.args.migration c.args.homes.now (λ a b. Listens (view tell a) (view tell b)) (λ a b mine out. out.listens) c.loop-session.session-index c.args.sessions.now c.loop-session.sessions c.loop-session.invariant.0 c.loop-session.invariant.2)
    (omega (arith, c.loop-session-test.true, c.loop-session.auto.sessions)) c.hear_at.ensures.some

pub returns-in_err-hear_at-clause-cause : goal.returns-in_err-hear_at-clause-cause
returns-in_err-hear_at-clause-cause g c =
    let tell = g.T.Port.told in
    let why = c.in_err-hear_at.field-0.0 in
    let now = set c.loop-session.sessions c.loop-session.session-index c.hear_at.new.session in
    if_err c.from_residual.result why (λ w. IsCauseOfHear tell c.args.migration c.args.homes.now w c.args.sessions.now now) c.from_residual.ensures.1
    (of_one (λ a b. IsHearCause c.args.migration c.args.homes.now why (view tell a) (view tell b)) why c.args.sessions.now now
    (at_one (λ a b. Listens (view tell a) (view tell b)) (λ a b. IsHearCause c.args.migration c.args.homes.now why (view tell a) (view tell b)) c.loop-session.session-index c.args.sessions.now c.loop-session.sessions c.hear_at.new.session c.session-item.result
    (heard_so tell c.args.migration c.args.homes.now (λ a b. Listens (view tell a) (view tell b)) (λ a b mine out. out.listens) c.loop-session.session-index c.args.sessions.now c.loop-session.sessions c.loop-session.invariant.0 c.loop-session.invariant.2)
    (omega (arith, c.loop-session-test.true, c.loop-session.auto.sessions)) c.in_err-hear_at.ensures.cause))

pub returns-clause-each : goal.returns-clause-each
returns-clause-each g c =
    let tell = g.T.Port.told in
    in_all (λ a b. Listens (view tell a) (view tell b)) (λ a. listens_to_nothing (view tell a)) c.loop-session.session-index c.args.sessions.now c.loop-session.sessions
    (heard_so tell c.args.migration c.args.homes.now (λ a b. Listens (view tell a) (view tell b)) (λ a b mine out. out.listens) c.loop-session.session-index c.args.sessions.now c.loop-session.sessions c.loop-session.invariant.0 c.loop-session.invariant.2)

pub returns-clause-ok : goal.returns-clause-ok
returns-clause-ok g c =
    let tell = g.T.Port.told in
    let so = c.loop-session.invariant in
    (so.0, so.1, all_heard tell c.args.migration c.args.homes.now c.loop-session.session-index c.args.sessions.now c.loop-session.sessions so.0 so.2 (omega (arith, c.loop-session-test.false, c.loop-session.auto.sessions)))

pub returns-clause-live : goal.returns-clause-live
returns-clause-live g c =
    let tell = g.T.Port.told in
    let heard = returns-clause-ok g c in
    all_live tell c.args.migration c.args.homes.now c.args.sessions.now c.loop-session.sessions heard.0 heard.2
