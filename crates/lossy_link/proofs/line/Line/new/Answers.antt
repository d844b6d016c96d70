use Rattle.std.proofs.Common.{subst, sym, []}
use Rattle.switch_agent.specs.Items.{holding}
use Rattle.wan_edge.specs.Ports.{AnswersHeld}
use Rattle.lossy_link.specs.WayBack.{Back}
use Rattle.lossy_link.proofs.Traffics.{answered_held, nothing_answered}
use Rattle.lossy_link.proofs.line.Line.new.Goals as goal

pub returns-clause-honest : goal.returns-clause-honest
returns-clause-honest c =
    let held = holding c.new-2.result in
    subst (λ (b : Back). AnswersHeld b.heard held) (sym c.new-4.ensures) (answered_held held [] (record { heard = []; due = [] }) (nothing_answered held))
