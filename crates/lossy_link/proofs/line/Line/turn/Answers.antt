use Rattle.switch_agent.specs.Items.{holding}
use Rattle.lossy_link.proofs.Traffics.{answered_front, answered_held, answered_turned}
use Rattle.lossy_link.proofs.line.Line.turn.Goals as goal

pub invariant_of-self : goal.invariant_of-self
invariant_of-self c =
    answered_front (holding c.self.inside.agent) c.self.inside.waiting.items c.deref.result.now c.self.inside.back c.arrive.new.back c.deref.ensures.value c.self.invariant c.arrive.ensures.some.0 c.arrive.ensures.some.1

pub returns-in_err-arrive-clause-honest : goal.returns-in_err-arrive-clause-honest
returns-in_err-arrive-clause-honest c =
    answered_held (holding c.self.inside.agent) c.self.inside.waiting.items c.arrive.new.back
    (answered_front (holding c.self.inside.agent) c.self.inside.waiting.items c.deref.result.now c.self.inside.back c.arrive.new.back c.deref.ensures.value c.self.invariant c.arrive.ensures.some.0 c.arrive.ensures.some.1)

pub invariant_of-self-2 : goal.invariant_of-self-2
invariant_of-self-2 c =
    answered_turned (holding c.self.inside.agent) c.self.inside.waiting.items c.deref.result.now c.self.inside.back c.arrive.new.back c.deref.ensures.value c.self.invariant c.wait_on.new.row.items c.wait_on.ensures c.in_ok-arrive.ensures.ok

pub returns-clause-honest : goal.returns-clause-honest
returns-clause-honest c =
    answered_held (holding c.self.inside.agent) c.wait_on.new.row.items c.arrive.new.back
    (answered_turned (holding c.self.inside.agent) c.self.inside.waiting.items c.deref.result.now c.self.inside.back c.arrive.new.back c.deref.ensures.value c.self.invariant c.wait_on.new.row.items c.wait_on.ensures c.in_ok-arrive.ensures.ok)
