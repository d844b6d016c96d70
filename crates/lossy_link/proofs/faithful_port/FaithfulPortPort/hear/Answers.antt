use Rattle.std.proofs.Common.{arith, ap}
use Rattle.switch_agent.specs.Items.{holding}
use Rattle.lossy_link.specs.Faithful.{Faith}
use Rattle.lossy_link.proofs.Keeping.{hear_all, hear_order, hear_step}
use Rattle.lossy_link.proofs.faithful_port.FaithfulPortPort.hear.Goals as goal

pub returns-in_err-hear_nothing-clause-by_rule : goal.returns-in_err-hear_nothing-clause-by_rule
returns-in_err-hear_nothing-clause-by_rule c = hear_step _ _ _ _ _ c.self.invariant _ c.give-n.ensures.left _ (ap (λ (v : Faith). holding v.items) c.self.view_is)

pub returns-in_err-hear_nothing-clause-in_order : goal.returns-in_err-hear_nothing-clause-in_order
returns-in_err-hear_nothing-clause-in_order c = hear_order _ _ _ _ _ c.self.invariant _ c.give-n.ensures.left

pub returns-in_ok-hear_nothing-clause-by_rule : goal.returns-in_ok-hear_nothing-clause-by_rule
returns-in_ok-hear_nothing-clause-by_rule c = hear_step _ _ _ _ _ c.self.invariant _ c.give-n.ensures.left _ (ap (λ (v : Faith). holding v.items) c.self.view_is)

pub returns-in_ok-hear_nothing-clause-in_order : goal.returns-in_ok-hear_nothing-clause-in_order
returns-in_ok-hear_nothing-clause-in_order c = hear_order _ _ _ _ _ c.self.invariant _ c.give-n.ensures.left

pub returns-in_ok-hear_nothing-clause-all_given : goal.returns-in_ok-hear_nothing-clause-all_given
returns-in_ok-hear_nothing-clause-all_given c none =
    hear_all _ _ _ _ _ c.self.invariant _ c.give-n.ensures.left c.in_ok-hear_nothing.ensures.quiet.0 (omega (arith, none, c.requires.room, c.give-n.ensures.count))

pub returns-else-n-eq0-clause-by_rule : goal.returns-else-n-eq0-clause-by_rule
returns-else-n-eq0-clause-by_rule c = hear_step _ _ _ _ _ c.self.invariant _ c.give-n.ensures.left _ (ap (λ (v : Faith). holding v.items) c.self.view_is)

pub returns-else-n-eq0-clause-in_order : goal.returns-else-n-eq0-clause-in_order
returns-else-n-eq0-clause-in_order c = hear_order _ _ _ _ _ c.self.invariant _ c.give-n.ensures.left
