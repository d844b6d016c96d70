use Rattle.std.proofs.Common.{◌≡◌, ℕ, List, [], ◌∷◌, ◌++◌, sym, ap, ◌∙◌, arith}
use Rattle.std.proofs.lemmas.List.{take_all}
use Rattle.switch_ports.specs.Due.{due_of}
use Rattle.switch_ports.proofs.Lateness.{due_more}
use Rattle.switch_ports.proofs.due.due_each.Goals as goal

pub loop-session-preserved : goal.loop-session-preserved
loop-session-preserved g c =
    c.in_ok-add_due.ensures ∙ ap (λ (ws : List ℕ). ws ++ due_of (c.session-item.result ∷ [])) c.loop-session.invariant
    ∙ sym (due_more c.args.sessions.now c.loop-session.session-index c.session-item.result (omega (arith, c.loop-session-test.true)) c.session-item.is)

pub returns : goal.returns
returns g c = c.loop-session.invariant ∙ ap due_of (take_all c.loop-session.session-index c.args.sessions.now (omega (arith, c.loop-session-test.false)))
