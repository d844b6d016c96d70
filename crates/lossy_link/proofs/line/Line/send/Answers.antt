use Rattle.std.proofs.Common.{◌≡◌, true, ap, subst, arith, rules}
use Rattle.switch_agent.specs.Items.{holding}
use Rattle.rollout_rules.specs.Agent.{is_at_most}
use Rattle.rollout_rules.specs.declared.held.Held.{Held}
use Rattle.rollout_rules.proofs.Pairs.{at_most-refl}
use Rattle.wan_edge.specs.Frames.{CommandFrame}
use Rattle.wan_edge.specs.Switches.{answer_of}
use Rattle.lossy_link.specs.Traffic.{SaysAtMost}
use Rattle.lossy_link.specs.declared.waiting.Waiting.{Waiting}
use Rattle.lossy_link.proofs.Traffics.{answered_delivered, answered_held, answered_set_out}
use Rattle.lossy_link.proofs.line.Line.send.Goals as goal

pub invariant_of-self : goal.invariant_of-self
invariant_of-self c =
    answered_delivered (holding c.self.inside.agent) (holding c.deliver.new.agent) c.deliver.ensures.some.0 c.args.command.now c.self.inside.waiting.items c.self.inside.back c.deliver.ensures.some.1 c.self.invariant

pub returns-in_err-deliver-clause-honest : goal.returns-in_err-deliver-clause-honest
returns-in_err-deliver-clause-honest c =
    answered_held (holding c.deliver.new.agent) c.self.inside.waiting.items c.self.inside.back
    (answered_delivered (holding c.self.inside.agent) (holding c.deliver.new.agent) c.deliver.ensures.some.0 c.args.command.now c.self.inside.waiting.items c.self.inside.back c.deliver.ensures.some.1 c.self.invariant)

pub invariant_of-self-2 : goal.invariant_of-self-2
invariant_of-self-2 c =
    let held = holding c.deliver.new.agent in
    let waiting = c.self.inside.waiting.items in
    let back = c.self.inside.back in
    let delivered = answered_delivered (holding c.self.inside.agent) held c.deliver.ensures.some.0 c.args.command.now waiting back c.deliver.ensures.some.1 c.self.invariant in
    let w : Waiting = record { answer = answer_of c.command.inside.0.1.0.item c.held-held.result; late = c.next-fate.result.late } in
    let says : SaysAtMost held w.answer = record {
      fits = record { migration = (search rules); item = omega (arith, ap (λ (frame : CommandFrame). frame.1.item) c.command.view_is, c.requires.item); held = (search rules) };
      below = subst (λ (pair : Held). is_at_most c.held-held.result pair ≡ true) c.held-held.ensures (at_most-refl c.held-held.result);
    } in
    answered_set_out held waiting c.set_out.new.row.items back c.set_out.ensures.some.0 w c.set_out.ensures.some.1 says delivered

pub returns-clause-honest : goal.returns-clause-honest
returns-clause-honest c =
    answered_held (holding c.deliver.new.agent) c.self.inside.waiting.items c.self.inside.back
    (answered_delivered (holding c.self.inside.agent) (holding c.deliver.new.agent) c.deliver.ensures.some.0 c.args.command.now c.self.inside.waiting.items c.self.inside.back c.deliver.ensures.some.1 c.self.invariant)
