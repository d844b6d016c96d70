use Rattle.std.proofs.Common.{length, ap, arith}
use Rattle.switch_agent.specs.Items.{Items}
use Rattle.switch_agent.proofs.agent.Agent.keeps_few_items.Goals as goal

pub returns-clause-few : goal.returns-clause-few
returns-clause-few c = omega (arith, ap (λ (items : Items). length items) c.self.view_is, c.self.invariant)
