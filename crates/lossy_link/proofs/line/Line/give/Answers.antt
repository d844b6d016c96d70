use Rattle.std.proofs.Common.{subst, sym}
use Rattle.switch_agent.specs.Items.{holding}
use Rattle.wan_edge.specs.Ports.{AnswersHeld}
use Rattle.lossy_link.specs.WayBack.{Back, after_hearing}
use Rattle.lossy_link.proofs.Traffics.{answered_heard, answered_held}
use Rattle.lossy_link.proofs.line.Line.give.Goals as goal

pub returns-clause-honest : goal.returns-clause-honest
returns-clause-honest c =
    let held = holding c.self.inside.agent in
    let back = c.self.inside.back in
    subst (λ (b : Back). AnswersHeld b.heard held) (sym c.give.ensures.left)
    (answered_held held c.self.inside.waiting.items (after_hearing back c.give.result) (answered_heard held c.self.inside.waiting.items back c.give.result c.self.invariant))
