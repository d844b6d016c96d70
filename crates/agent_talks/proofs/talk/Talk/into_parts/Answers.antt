use Rattle.std.proofs.Common.{ap}
use Rattle.switch_agent.specs.ReadStates.{ReadSoFar}
use Rattle.agent_talks.proofs.talk.Talk.into_parts.Goals as goal

pub returns-clause-kept : goal.returns-clause-kept
returns-clause-kept c = ap (λ (t : ReadSoFar). t.kept) c.self.view_is

pub returns-clause-room : goal.returns-clause-room
returns-clause-room c = ap (λ (t : ReadSoFar). t.room) c.self.view_is

pub returns-clause-live : goal.returns-clause-live
returns-clause-live c = c.self.invariant.live

pub returns-clause-cut : goal.returns-clause-cut
returns-clause-cut c = c.self.invariant.cut

pub returns-clause-some : goal.returns-clause-some
returns-clause-some c = c.self.invariant.some

pub returns-clause-few : goal.returns-clause-few
returns-clause-few c = c.self.invariant.few
