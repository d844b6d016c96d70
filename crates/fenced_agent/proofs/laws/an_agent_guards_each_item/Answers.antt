use Rattle.fenced_agent.proofs.Guards.{guards-own, guards-others}
use Rattle.fenced_agent.proofs.laws.an_agent_guards_each_item.Goals as goal

pub returns : goal.returns
returns c = record { own = guards-own; others = guards-others }
