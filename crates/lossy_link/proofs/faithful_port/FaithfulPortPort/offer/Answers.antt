use Rattle.std.proofs.Common.{ap, subst}
use Rattle.switch_agent.specs.Items.{holding}
use Rattle.lossy_link.specs.Faithful.{AreFirstAnswered, Faith}
use Rattle.lossy_link.specs.Incoming.{Came, offered_of}
use Rattle.lossy_link.proofs.Keeping.{answers_none, in_order, stands_step}
use Rattle.lossy_link.proofs.faithful_port.FaithfulPortPort.offer.Goals as goal

pub returns-then-self-clause-some : goal.returns-then-self-clause-some
returns-then-self-clause-some c =
    subst (λ (v : Faith). Came (AreFirstAnswered (holding v.items) (holding c.self.inside.agent) v.back c.self.inside.back) v.offered (offered_of c.self.inside.incoming)) c.self.view_is
    (answers_none _ _ _ _ c.self.invariant)

pub returns-then-self-clause-by_rule : goal.returns-then-self-clause-by_rule
returns-then-self-clause-by_rule c =
    stands_step _ _ _ _ c.self.invariant _ (ap (λ (v : Faith). holding v.items) c.self.view_is)

pub returns-then-self-clause-in_order : goal.returns-then-self-clause-in_order
returns-then-self-clause-in_order c = in_order _ _ _ _ c.self.invariant
