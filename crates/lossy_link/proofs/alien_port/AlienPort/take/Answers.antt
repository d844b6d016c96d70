use Rattle.std.proofs.Common.{◌≡◌, ◌∙◌, false, true, refl, ap, subst}
use Rattle.std.proofs.lemmas.Bool.{true≢false}
use Rattle.lossy_link.specs.Aliens.{Alien, AreAnsweredWith}
use Rattle.lossy_link.specs.Incoming.{Came, IsTaken, Stream, offered_of}
use Rattle.lossy_link.proofs.Behind.{all_came}
use Rattle.lossy_link.proofs.Sending.{taken_on}
use Rattle.lossy_link.proofs.alien_port.AlienPort.take.Goals as goal

pub invariant_of-self-in_err-answer_each : goal.invariant_of-self-in_err-answer_each
invariant_of-self-in_err-answer_each c =
    taken_on c.self.inside.incoming c.accept.new.self c.answer_each.new.incoming c.self.inside.down true c.self.invariant (ap (λ (s : Stream). s.taken) c.in_ok-accept.ensures.ok) c.answer_each.ensures.has (λ e. absurd (true≢false e))

pub invariant_of-self-2 : goal.invariant_of-self-2
invariant_of-self-2 c =
    taken_on c.self.inside.incoming c.accept.new.self c.answer_each.new.incoming c.self.inside.down false c.self.invariant (ap (λ (s : Stream). s.taken) c.in_ok-accept.ensures.ok) c.answer_each.ensures.has (λ e. c.in_ok-answer_each.ensures.all)

pub returns-clause-answered : goal.returns-clause-answered
returns-clause-answered c =
    let down_is : c.self.inside.down ≡ false = ap (λ (v : Alien). v.down) c.self.view_is ∙ c.requires in
    let is : IsTaken c.self.inside.incoming false = subst (IsTaken c.self.inside.incoming) down_is c.self.invariant in
    subst (λ (v : Alien). Came (AreAnsweredWith v.number v.back c.answer_each.new.back) v.offered (offered_of c.answer_each.new.incoming)) c.self.view_is
    (all_came (AreAnsweredWith c.self.inside.held c.self.inside.back c.answer_each.new.back) c.self.inside.incoming c.accept.new.self c.answer_each.new.incoming is.commands is.has (is.all refl) (ap (λ (s : Stream). s.taken) c.in_ok-accept.ensures.ok) c.in_ok-answer_each.ensures.answered c.in_ok-answer_each.ensures.all)
