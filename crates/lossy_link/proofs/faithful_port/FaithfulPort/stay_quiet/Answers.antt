use Rattle.std.proofs.Common.{ap}
use Rattle.switch_agent.specs.Items.{holding}
use Rattle.lossy_link.specs.Faithful.{Faith}
use Rattle.lossy_link.proofs.Keeping.{in_order, stands_step}
use Rattle.lossy_link.proofs.faithful_port.FaithfulPort.stay_quiet.Goals as goal

pub returns-clause-by_rule : goal.returns-clause-by_rule
returns-clause-by_rule c = stands_step _ _ _ _ c.self.invariant _ (ap (λ (v : Faith). holding v.items) c.self.view_is)

pub returns-clause-in_order : goal.returns-clause-in_order
returns-clause-in_order c = in_order _ _ _ _ c.self.invariant
