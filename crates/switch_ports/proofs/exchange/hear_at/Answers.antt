use Rattle.std.proofs.Common.{◌≡◌, ◌⊎◌, ◌≤◌, ℕ, List, ◌++◌, [], length, drop, Err, None, sym, subst, ap, ◌∙◌}
use Rattle.std.proofs.Math.Seq.{drop-length}
use Rattle.std.specs.Bool.{OnTrue}
use Rattle.std.specs.Prelude.{All}
use Rattle.wan_edge.specs.Frames.{Answer}
use Rattle.wan_edge.specs.Ports.{NothingToCome}
use Rattle.port_session.specs.Sessions.{IsOver}
use Rattle.switch_ports.specs.Causes.{cause_of}
use Rattle.switch_ports.specs.Hearing.{HearsOut, IsHearCause, IsOwn, Listens}
use Rattle.switch_ports.specs.Views.{view}
use Rattle.switch_ports.proofs.Told.{behind, hear_cause, tail_told, told_apart}
use Rattle.switch_ports.proofs.exchange.hear_at.Goals as goal

pub returns-in-Err-clause-some : goal.returns-in-Err-clause-some
returns-in-Err-clause-some g c =
    let said = c.hear_all.ensures in record { switch = said.switch; goes_on = said.port; unsent = said.unsent }

pub returns-in-Err-clause-cause : goal.returns-in-Err-clause-cause
returns-in-Err-clause-cause g c =
    let tell = g.T.Port.told in
    subst (λ why. IsHearCause c.args.migration c.args.homes.now why (view tell c.args.session.now) (view tell c.hear_all.new.self))
    (sym (c.cause_at.ensures ∙ ap (λ w. cause_of w c.in-Err.fault) (c.switch.ensures ∙ c.hear_all.ensures.switch)))
    (hear_cause tell c.args.migration c.args.homes.now c.args.session.now c.hear_all.new.self c.args.heard.now.answers c.hear_all.new.heard.answers c.in-Err.fault c.in-Err.ensures.err (λ same. c.in-Err.ensures.cause (ap Err same)))

pub returns-in-Some-clause-some : goal.returns-in-Some-clause-some
returns-in-Some-clause-some g c =
    let said = c.hear_all.ensures in record { switch = said.switch; goes_on = said.port; unsent = said.unsent }

pub returns-in-None-clause-some : goal.returns-in-None-clause-some
returns-in-None-clause-some g c =
    let said = c.hear_all.ensures in record { switch = said.switch; goes_on = said.port; unsent = said.unsent }

pub returns-in-None-clause-ok : goal.returns-in-None-clause-ok
returns-in-None-clause-ok g c =
    let tell = g.T.Port.told in
    let said = c.in_default.ensures.ok in
    let apart = told_apart c.args.migration (tell c.args.session.now.port).heard (tell c.hear_all.new.self.port).heard c.args.session.now.stream c.hear_all.new.self.stream c.args.heard.now.answers c.hear_all.new.heard.answers None said.hears in (
      apart.0,
      apart.1,
      record {
        listens = returns-in-None-clause-some g c;
        reads = apart.2;
        own = subst (λ w. All (IsOwn c.args.homes.now w) apart.0) (c.switch-switch.ensures ∙ c.hear_all.ensures.switch)
            (subst (λ xs. All (IsOwn c.args.homes.now c.switch-switch.result) xs)
            (tail_told c.args.heard.now.answers apart.0 c.hear_all.new.heard.answers c.answers-before.result.now c.answers.result.now c.answers-before.ensures.answers c.answers.ensures.answers apart.1) c.in-None.ensures.none);
        live = said.live;
        cut = c.hear_all.ensures.cut said.live;
        idle = λ none. (ap (view tell) (c.in_default.ensures.idle none).1, sym (behind c.args.heard.now.answers apart.0 c.hear_all.new.heard.answers apart.1) ∙ ap (drop (length c.args.heard.now.answers)) (c.in_default.ensures.idle none).2 ∙ drop-length c.args.heard.now.answers);
        over = subst (λ (n : ℕ). IsOver n c.args.session.now.stream.awaited c.hear_all.new.self.stream.awaited (tell c.args.session.now.port) (tell c.hear_all.new.self.port)) (sym (ap length apart.3)) said.over;
        comes = said.comes;
        all_given = subst (λ (n : ℕ). OnTrue (tell c.args.session.now.port).prompt ((c.args.session.now.stream.awaited ≤ n) ⊎ NothingToCome (tell c.args.session.now.port).start (tell c.hear_all.new.self.port).offered (tell c.hear_all.new.self.port).heard)) (sym (ap length apart.3)) said.all_given;
      },
    )
