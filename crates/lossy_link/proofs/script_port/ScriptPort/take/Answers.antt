use Rattle.std.proofs.Common.{◌≡◌, ◌∙◌, List, ℕ, true, false, refl, ap, subst, sym}
use Rattle.std.proofs.lemmas.Bool.{true≢false}
use Rattle.switch_agent.specs.Items.{holding}
use Rattle.lossy_link.specs.Incoming.{Came, HasCommands, IsTaken, Stream, offered_of}
use Rattle.lossy_link.specs.Scripted.{AreSent, Scripted}
use Rattle.lossy_link.specs.Traffic.{traffic_of}
use Rattle.lossy_link.proofs.Behind.{all_came}
use Rattle.lossy_link.proofs.Sending.{honest_step, taken_on}
use Rattle.lossy_link.proofs.script_port.ScriptPort.take.Goals as goal

pub invariant_of-self-in_err-send_each : goal.invariant_of-self-in_err-send_each
invariant_of-self-in_err-send_each c =
    record { taken = taken_on c.self.inside.incoming c.accept.new.self c.send_each.new.incoming c.self.inside.down true c.self.invariant.taken (ap (λ (s : Stream). s.taken) c.in_ok-accept.ensures.ok) c.send_each.ensures.has (λ e. absurd (true≢false e)); honest = c.send_each.ensures.honest }

pub returns-in_err-send_each-clause-by_rule : goal.returns-in_err-send_each-clause-by_rule
returns-in_err-send_each-clause-by_rule c =
    honest_step (offered_of c.send_each.new.incoming) c.send_each.new.line.back.heard (holding c.args.self.now.line.items) (holding c.self.inside.line.items) (holding c.send_each.new.line.items) (ap (λ (v : Scripted). holding v.line.items) c.self.view_is)
    (c.send_each.ensures.moves c.self.invariant.taken.commands (subst (λ (xs : List ℕ). HasCommands xs c.self.invariant.taken.commands) (sym (ap (λ (s : Stream). s.taken) c.in_ok-accept.ensures.ok)) c.self.invariant.taken.has)) c.send_each.ensures.honest

pub invariant_of-self-2 : goal.invariant_of-self-2
invariant_of-self-2 c =
    record { taken = taken_on c.self.inside.incoming c.accept.new.self c.send_each.new.incoming c.self.inside.down false c.self.invariant.taken (ap (λ (s : Stream). s.taken) c.in_ok-accept.ensures.ok) c.send_each.ensures.has (λ e. c.in_ok-send_each.ensures.all); honest = c.send_each.ensures.honest }

pub returns-clause-sent : goal.returns-clause-sent
returns-clause-sent c =
    let down_is : c.self.inside.down ≡ false = ap (λ (v : Scripted). v.down) c.self.view_is ∙ c.requires in
    let is : IsTaken c.self.inside.incoming false = subst (IsTaken c.self.inside.incoming) down_is c.self.invariant.taken in
    subst (λ (v : Scripted). Came (AreSent (traffic_of v.line) (traffic_of c.send_each.new.line)) v.offered (offered_of c.send_each.new.incoming)) c.self.view_is
    (all_came (AreSent (traffic_of c.self.inside.line) (traffic_of c.send_each.new.line)) c.self.inside.incoming c.accept.new.self c.send_each.new.incoming is.commands is.has (is.all refl) (ap (λ (s : Stream). s.taken) c.in_ok-accept.ensures.ok) c.in_ok-send_each.ensures.sent c.in_ok-send_each.ensures.all)

pub returns-clause-by_rule : goal.returns-clause-by_rule
returns-clause-by_rule c =
    honest_step (offered_of c.send_each.new.incoming) c.send_each.new.line.back.heard (holding c.args.self.now.line.items) (holding c.self.inside.line.items) (holding c.send_each.new.line.items) (ap (λ (v : Scripted). holding v.line.items) c.self.view_is)
    (c.send_each.ensures.moves c.self.invariant.taken.commands (subst (λ (xs : List ℕ). HasCommands xs c.self.invariant.taken.commands) (sym (ap (λ (s : Stream). s.taken) c.in_ok-accept.ensures.ok)) c.self.invariant.taken.has)) c.send_each.ensures.honest
