use Rattle.std.proofs.Common.{◌≡◌, true, IfSome, subst, ap, ◌∙◌}
use Rattle.intent_journal.specs.Opened.{Opened}
use Rattle.intent_journal.specs.States.{IsGate}
use Rattle.intent_journal.proofs.Appends.{where_set}
use Rattle.intent_journal.proofs.Behind.{is_gate}
use Rattle.intent_journal.proofs.journal.Journal.gate.Goals as goal

pub returns : goal.returns
returns g c live =
    let j = c.self.inside in
    let alive : j.live ≡ true = ap (λ (o : Opened _). o.live) c.self.view_is ∙ live in
    subst (λ (o : Opened _). IfSome (g.D.Disk.told o.disk).bytes (IsGate j.gate)) c.self.view_is
    (is_gate j.gate j.end _ _ (where_set _ _ c.self.invariant.0 alive))
