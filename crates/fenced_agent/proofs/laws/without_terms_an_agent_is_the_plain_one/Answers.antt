use Rattle.std.proofs.Common.{refl}
use Rattle.fenced_agent.proofs.Guards.{plain-held}
use Rattle.fenced_agent.proofs.laws.without_terms_an_agent_is_the_plain_one.Goals as goal

pub returns : goal.returns
returns c = record { carried_out = plain-held; commands = λ frame. refl; answers = λ frame. refl }
