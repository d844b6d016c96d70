use Rattle.std.proofs.Common.{◌≡◌, ℕ, List, map, nat_eq, sym, ap, subst, ◌∙◌}
use Rattle.std.proofs.lemmas.Result.{IfOk-weaker}
use Rattle.std.specs.List.{IsDistinct}
use Rattle.port_session.specs.Sessions.{SessionView}
use Rattle.switch_ports.specs.Due.{AreApart, due_of}
use Rattle.switch_ports.proofs.Lateness.{due_apart}
use Rattle.switch_ports.proofs.ports.WorkerPorts.due.Goals as goal

pub returns-clause-due : goal.returns-clause-due
returns-clause-due g c = IfOk-weaker c.due_each.result _ _ (λ due is. is ∙ ap due_of (c.as_slice.ensures.value ∙ c.self.view_is)) c.due_each.ensures

pub returns-clause-apart : goal.returns-clause-apart
returns-clause-apart g c =
    let now : List (SessionView g.row.T.Denot) = c.args.self.now in
    let distinct : IsDistinct nat_eq (map (λ t. t.switch) now) = subst (IsDistinct nat_eq) (c.self.invariant ∙ ap (map (λ t. t.switch)) c.self.view_is) c.are_apart.ensures in
    IfOk-weaker c.due_each.result _ _ (λ due is. subst (λ (ws : List ℕ). AreApart ws now) (sym (is ∙ ap due_of (c.as_slice.ensures.value ∙ c.self.view_is))) (due_apart now distinct)) c.due_each.ensures
